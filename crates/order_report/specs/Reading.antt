-- Which texts are conditions: their words are those of trace lines.
use Rattle.std.specs.Prelude.{◌≡◌, ℕ, List, [], ◌∷◌, ◌++◌, codes}
use Rattle.asio_types.specs.declared.event.Event.TheVariants as event
use Rattle.history_book.specs.Trace.{line_end, trace_of}
use Rattle.order_questions.specs.declared.condition.Condition.{Condition}
use Rattle.order_questions.specs.declared.condition.Condition.TheVariants as condition
use Rattle.order_questions.specs.declared.sign.Sign.{Sign}
use Rattle.order_questions.specs.declared.sign.Sign.TheVariants as sign

-- a line of a trace, or one but for its last number, or but for its code and size
abbrev pub IsSignText : List ℕ → Sign → Type 0
IsSignText text (sign.Whole wanted) = text ++ line_end ≡ trace_of (wanted ∷ [])
IsSignText text (sign.Coded wanted) = text ++ (codes " 0" ++ line_end) ≡ trace_of (wanted ∷ [])
IsSignText text (sign.Plain wanted) = text ++ (codes " ok 0" ++ line_end) ≡ trace_of (wanted ∷ [])

-- two numbers, as they stand behind the word of an end
abbrev pub IsOverlapText : List ℕ → ℕ → ℕ → Type 0
IsOverlapText text one other =
    codes "end " ++ text ++ line_end ≡ trace_of (event.End one other ∷ [])

-- one sign before another
pub record IsBeforeText (text : List ℕ) (first second : Sign) : Type 0 where
  pub front : List ℕ
  pub back : List ℕ
  pub is : text ≡ front ++ (codes " before " ++ back)
  pub is_first : IsSignText front first
  pub is_second : IsSignText back second

-- two handlers overlap
pub record IsOverlap (text : List ℕ) (one other : ℕ) : Type 0 where
  pub numbers : List ℕ
  pub is : text ≡ codes "overlap " ++ numbers
  pub are : IsOverlapText numbers one other

abbrev pub IsConditionText : List ℕ → Condition → Type 0
IsConditionText text (condition.Happens shown) = IsSignText text shown
IsConditionText text (condition.Before first second) = IsBeforeText text first second
IsConditionText text (condition.Overlap one other) = IsOverlap text one other
