-- How a script keeps the acts of its places.
use Rattle.std.specs.Prelude.{◌≡◌, ℕ, ◌+◌, ◌*◌, ◌<◌, List, [], Some, None, length, slice_index_or}
use Rattle.asio_types.specs.declared.code.Class.{Class}
use Rattle.session_script.specs.Script.{Entry, numbers_in}
use Rattle.session_script.specs.Groups.{class_number}

-- a group for `open`, and after it three for each act
pub record HoldsPlaces (acts : List Entry) (groups : List (List ℕ)) : Type 0 where
  pub count : length groups ≡ 3 * length acts + 2
  pub opening : slice_index_or groups 0 [] ≡ numbers_in None 0 acts
  pub branches : (op : ℕ) (class : Class) → op < length acts →
      slice_index_or groups (1 + 3 * op + class_number class) []
      ≡ numbers_in (Some (op, class)) 0 acts
