-- Each part of a script that is within its limits, and for which its version has words, has words.
use Rattle.std.proofs.Common.{◌≡◌, ℕ, ◌^◌, ◌<◌, ◌≤◌, inl, inr, Bool, true, false, cond, List, [], ◌∷◌, length, Option, Some, None, refl, sym, arith}
use Rattle.std.specs.Prelude.{nat_eq, IfSome}
use Rattle.std.specs.List.{All, AllByRecursion}
use Rattle.std.specs.Fmt.{decimal}
use Rattle.std.proofs.lemmas.List.Elements.{recursion_from_All}
use lib.Chars.{codes}
use Rattle.asio_types.specs.declared.world.Line.{Line}
use Rattle.asio_types.specs.declared.world.What.{What}
use Rattle.asio_types.specs.declared.world.What.TheVariants as what
use Rattle.session_script.specs.declared.act.Act.{Act}
use Rattle.session_script.specs.declared.act.Act.TheVariants as act
use Rattle.session_script.specs.declared.limits.Limits.{Limits}
use Rattle.session_script.specs.declared.parts.Header.{Header}
use Rattle.session_script.specs.declared.round.Round.{Round}
use Rattle.session_script.specs.Limits.{limits_of}
use Rattle.session_script.specs.Script.{ScriptModel}
use Rattle.session_script.specs.Spelling.{data_text, encoded}
use Rattle.session_script.specs.Text.{Words, IsWord, IsN, IsDashOrN, IsDataText, IsCountText, IsPlugText, IsTail, IsWhatText, IsLineText, IsLinesText, pace_text, IsRestartText, IsRoundText, IsRoundsText, IsFieldsText, IsActText, act_text, IsDeclsText}
use Rattle.session_script.specs.WellFormed.{FitsAct, FitsWhat, FitsLine, FitsRound, IsLane, IsPlug, IsWellFormed, header_of}
use Rattle.session_script.specs.Writable.{AreBytes, HasFilter, HasFields, HasWords, IsFedBytes}
use Rattle.session_script.proofs.RespellingLemmas.{Two, Three, Four, Five}
use Rattle.session_script.proofs.WordLemmas.{decimal_is_numeral, decoded-encoded, data_text_is_data}

-- there are words for it, before any others
pub record HasText (R : Words → Words → Type 0) : Type 0 where
  pub text : (rest : Words) → (ws : Words) × R ws rest

pub same_text : {P Q : Words → Words → Type 0} → ((ws rest : Words) → P ws rest → Q ws rest) → HasText P → HasText Q
same_text less p = record { text = λ rest. let x = p.text rest in (x.0, less x.0 rest x.1) }

pub nothing_has_text : HasText (λ ws rest. ws ≡ rest)
nothing_has_text = record { text = λ rest. (rest, refl) }

pub word_has_text : (word : List ℕ) → HasText (IsWord word)
word_has_text word = record { text = λ rest. (word ∷ rest, refl) }

-- one after the other
pub two_have_text : {P Q : Words → Words → Type 0} → HasText P → HasText Q → HasText (Two P Q)
two_have_text p q = record { text = λ rest. let y = q.text rest in let x = p.text y.0 in (x.0, (y.0, x.1, y.1)) }

pub three_have_text : {P Q R : Words → Words → Type 0} → HasText P → HasText Q → HasText R → HasText (Three P Q R)
three_have_text p q r = same_text (λ ws rest x. (x.0, x.2.0, x.1, x.2.1, x.2.2)) (two_have_text p (two_have_text q r))

pub four_have_text : {P Q R S : Words → Words → Type 0} → HasText P → HasText Q → HasText R → HasText S →
    HasText (Four P Q R S)
four_have_text p q r s =
    same_text (λ ws rest x. (x.0, x.2.0, x.2.1, x.1, x.2.2, x.2.3, x.2.4)) (two_have_text p (three_have_text q r s))

pub five_have_text : {P Q R S T : Words → Words → Type 0} → HasText P → HasText Q → HasText R → HasText S → HasText T →
    HasText (Five P Q R S T)
five_have_text p q r s t =
    same_text (λ ws rest x. (x.0, x.2.0, x.2.1, x.2.2, x.1, x.2.3, x.2.4, x.2.5, x.2.6))
    (two_have_text p (four_have_text q r s t))

pub number_has_text : (n : ℕ) → n < 2 ^ 64 → HasText (IsN n)
number_has_text n small = record { text = λ rest. (decimal n ∷ rest, (decimal n, decimal_is_numeral n small, refl)) }

option_has_text : (o : Option ℕ) → IfSome o (λ n. n < 2 ^ 64) → HasText (IsDashOrN o)
option_has_text None small = word_has_text (codes "-")
option_has_text (Some n) small = number_has_text n small

data_has_text : (bytes : List ℕ) → 1 ≤ length bytes → AreBytes bytes → HasText (IsDataText bytes)
data_has_text bytes some are =
    record {
      text = λ rest. (
        data_text bytes ∷ rest,
        (
          data_text bytes,
          length bytes,
          encoded bytes,
          data_text_is_data bytes some are,
          sym (decoded-encoded bytes are),
          refl,
        ),
      );
    }

count_has_text : (text : List ℕ) (n : ℕ) → n < 2 ^ 64 → HasText (IsCountText text n)
count_has_text text n small =
    same_text (λ ws rest x. inr x) (two_have_text (word_has_text text) (number_has_text n small))

-- numbers that are far below what a numeral can say
pub record AreSmall (h : Header) : Type 0 where
  strands : h.strands < 2 ^ 64
  timers : h.timers < 2 ^ 64
  slots : h.slots < 2 ^ 64
  streams : h.streams < 2 ^ 64
  guards : h.guards < 2 ^ 64
  workers : h.limits.workers < 2 ^ 64
  size : h.limits.size < 2 ^ 64
  room : h.limits.room < 2 ^ 64
  time : h.limits.time < 2 ^ 64

small_option : (o : Option ℕ) (count : ℕ) → count < 2 ^ 64 → IfSome o (λ n. n < count) → IfSome o (λ n. n < 2 ^ 64)
small_option None count small fits = tt
small_option (Some n) count small fits = omega arith

filtered_has_text : (version : ℕ) (slot : Option ℕ) (filter : ℕ) → IfSome slot (λ n. n < 2 ^ 64) → filter ≤ 7 →
    HasFilter version slot filter → HasText (IsPlugText version slot filter)
filtered_has_text version slot filter small few (inl all) =
    same_text (λ ws rest x. inl (x, all)) (option_has_text slot small)
filtered_has_text version None filter small few (inr some) = absurd (cc (some.1))
filtered_has_text version (Some n) filter small few (inr some) =
    same_text (λ ws rest x. inr (some.0, (n, x.0, x.1, refl, x.2, x.3, x.4)))
    (three_have_text (number_has_text n small) (word_has_text (codes "only")) (number_has_text filter (omega arith)))

module _ (h : Header) (small : AreSmall h) where
  below : (n count : ℕ) → count < 2 ^ 64 → n < count → HasText (IsN n)
  below n count le lt = number_has_text n (omega arith)

  within : (n most : ℕ) → most < 2 ^ 64 → n ≤ most → HasText (IsN n)
  within n most lt le = number_has_text n (omega arith)

  lane_has_text : (strand : Option ℕ) → IsLane h strand → HasText (IsDashOrN strand)
  lane_has_text strand fits = option_has_text strand (small_option strand h.strands small.strands fits)

  tail_has_text : (version : ℕ) (strand slot : Option ℕ) (filter : ℕ) → IsLane h strand → IsPlug h slot filter →
      HasFilter version slot filter → HasText (IsTail version strand slot filter)
  tail_has_text version strand slot filter lane plug words =
      two_have_text (lane_has_text strand lane)
      (filtered_has_text version slot filter (small_option slot h.slots small.slots plug.0) plug.1 words)

  fields_have_text : (version : ℕ) (made : Act) → FitsAct h made → HasFields version made →
      HasText (IsFieldsText version made)
  fields_have_text version (act.Post strand) fits words = lane_has_text strand fits
  fields_have_text version (act.Defer strand) fits words = lane_has_text strand fits
  fields_have_text version (act.Dispatch strand) fits words = lane_has_text strand fits
  fields_have_text version (act.Expires timer after) fits words =
      two_have_text (below timer h.timers small.timers fits.0) (within after h.limits.time small.time fits.1)
  fields_have_text version (act.ExpiresAt timer at) fits words =
      two_have_text (below timer h.timers small.timers fits.0) (within at h.limits.time small.time fits.1)
  fields_have_text version (act.Wait timer strand slot filter) fits words =
      two_have_text (below timer h.timers small.timers fits.0) (tail_has_text version strand slot filter fits.1 fits.2 words)
  fields_have_text version (act.Cancel timer) fits words = below timer h.timers small.timers fits
  fields_have_text version (act.CancelOne timer) fits words = below timer h.timers small.timers fits
  fields_have_text version (act.Emit slot kinds) fits words =
      two_have_text (below slot h.slots small.slots fits.0) (number_has_text kinds (omega (arith, fits.1)))
  fields_have_text version (act.ReadSome stream size strand slot filter) fits words =
      three_have_text (below stream h.streams small.streams fits.0) (within size h.limits.size small.size fits.1.1)
      (tail_has_text version strand slot filter fits.2 fits.3 words)
  fields_have_text version (act.ReadAll stream size strand slot filter) fits words =
      three_have_text (below stream h.streams small.streams fits.0) (within size h.limits.size small.size fits.1.1)
      (tail_has_text version strand slot filter fits.2 fits.3 words)
  fields_have_text version (act.Until stream delimiter max strand slot filter) fits words =
      four_have_text (below stream h.streams small.streams fits.0) (data_has_text delimiter fits.1.0 words.0)
      (within max h.limits.size small.size fits.2.1) (tail_has_text version strand slot filter fits.3 fits.4 words.1)
  fields_have_text version (act.WriteSome stream bytes strand slot filter) fits words =
      three_have_text (below stream h.streams small.streams fits.0) (data_has_text bytes fits.1.0 words.0)
      (tail_has_text version strand slot filter fits.2 fits.3 words.1)
  fields_have_text version (act.WriteAll stream bytes strand slot filter) fits words =
      three_have_text (below stream h.streams small.streams fits.0) (data_has_text bytes fits.1.0 words.0)
      (tail_has_text version strand slot filter fits.2 fits.3 words.1)
  fields_have_text version (act.Close stream) fits words = below stream h.streams small.streams fits
  fields_have_text version (act.Release guard) fits words = below guard h.guards small.guards fits
  fields_have_text version act.Stop fits words = nothing_has_text

  -- an act without its bodies
  pub act_has_text : (version : ℕ) (made : Act) → FitsAct h made → HasWords version made →
      HasText (IsActText version made)
  act_has_text version made fits words =
      same_text (λ ws rest x. (x.0, words.0, x.1, x.2))
      (two_have_text (word_has_text (act_text made)) (fields_have_text version made fits words.1))

  what_has_text : (stream : ℕ) (happens : What) → stream < h.streams → FitsWhat h happens → IsFedBytes happens →
      HasText (IsWhatText happens stream)
  what_has_text stream (what.Feed bytes) lt fits fed =
      three_have_text (word_has_text (codes "feed")) (below stream h.streams small.streams lt) (data_has_text bytes fits.0 fed)
  what_has_text stream what.End lt fits fed =
      two_have_text (word_has_text (codes "end")) (below stream h.streams small.streams lt)
  what_has_text stream what.Reset lt fits fed =
      two_have_text (word_has_text (codes "reset")) (below stream h.streams small.streams lt)
  what_has_text stream (what.Room room) lt fits fed =
      three_have_text (word_has_text (codes "room")) (below stream h.streams small.streams lt)
      (within room h.limits.room small.room fits.1)

  line_has_text : (line : Line) → FitsLine h line → IsFedBytes line.what → HasText (IsLineText line)
  line_has_text line fits fed =
      three_have_text (word_has_text (codes "at")) (within line.time h.limits.time small.time fits.0)
      (what_has_text line.stream line.what fits.1 fits.2 fed)

  lines_by_recursion : (lines : List Line) → AllByRecursion (FitsLine h) lines →
      AllByRecursion (λ line. IsFedBytes line.what) lines → HasText (IsLinesText lines)
  lines_by_recursion [] fit fed = nothing_has_text
  lines_by_recursion (line ∷ lines) fit fed =
      two_have_text (line_has_text line fit.0 fed.0) (lines_by_recursion lines fit.1 fed.1)

  pub lines_have_text : (lines : List Line) → All (FitsLine h) lines → All (λ line. IsFedBytes line.what) lines →
      HasText (IsLinesText lines)
  lines_have_text lines fit fed =
      lines_by_recursion lines (recursion_from_All (FitsLine h) lines fit)
      (recursion_from_All (λ line. IsFedBytes line.what) lines fed)

  restart_has_text : (restart : Bool) → HasText (IsRestartText restart)
  restart_has_text true = same_text (λ ws rest x. inr (refl, x)) (word_has_text (codes "restart"))
  restart_has_text false = same_text (λ ws rest x. inl (refl, x)) nothing_has_text

  round_has_text : (round : Round) → FitsRound h round → HasText (IsRoundText round)
  round_has_text round fits =
      three_have_text (restart_has_text round.restart) (word_has_text (pace_text round.pace))
      (within round.workers h.limits.workers small.workers fits.1)

  rounds_by_recursion : (rounds : List Round) → AllByRecursion (FitsRound h) rounds → HasText (IsRoundsText rounds)
  rounds_by_recursion [] fit = nothing_has_text
  rounds_by_recursion (round ∷ rounds) fit =
      two_have_text (round_has_text round fit.0) (rounds_by_recursion rounds fit.1)

  pub rounds_have_text : (rounds : List Round) → All (FitsRound h) rounds → HasText (IsRoundsText rounds)
  rounds_have_text rounds fit = rounds_by_recursion rounds (recursion_from_All (FitsRound h) rounds fit)

-- the limits of either version are small
record AreSmallLimits (l : Limits) : Type 0 where
  objects : (l.strands ≤ 128) × (l.timers ≤ 128) × (l.slots ≤ 128) × (l.streams ≤ 128) × (l.guards ≤ 128)
  workers : l.workers < 2 ^ 64
  size : l.size < 2 ^ 64
  room : l.room < 2 ^ 64
  time : l.time < 2 ^ 64

either_at_most : (first : Bool) (a b most : ℕ) → a ≤ most → b ≤ most → cond first a b ≤ most
either_at_most true a b most le other = le
either_at_most false a b most other le = le

either_below : (first : Bool) (a b most : ℕ) → a < most → b < most → cond first a b < most
either_below true a b most lt other = lt
either_below false a b most other lt = lt

limits_are_small : (version : ℕ) → AreSmallLimits (limits_of version)
unfolding limits_of
limits_are_small version = let first = nat_eq version 1 in record {
  objects = (
    either_at_most first 16 64 128 (omega arith) (omega arith),
    either_at_most first 32 128 128 (omega arith) (omega arith),
    either_at_most first 64 128 128 (omega arith) (omega arith),
    either_at_most first 16 64 128 (omega arith) (omega arith),
    either_at_most first 16 64 128 (omega arith) (omega arith),
  );
  workers = either_below first 16 16 (2 ^ 64) (omega arith) (omega arith);
  size = either_below first 4096 16384 (2 ^ 64) (omega arith) (omega arith);
  room = either_below first 65536 262144 (2 ^ 64) (omega arith) (omega arith);
  time = either_below first 1099511627775 1099511627775 (2 ^ 64) (omega arith) (omega arith);
}

pub header_is_small : (script : ScriptModel) → IsWellFormed script → AreSmall (header_of script)
header_is_small script well =
    let limits = limits_are_small script.version in
    record {
      strands = omega (arith, well.strands, limits.objects.0);
      timers = omega (arith, well.timers, limits.objects.1);
      slots = omega (arith, well.slots, limits.objects.2);
      streams = omega (arith, well.streams, limits.objects.3);
      guards = omega (arith, well.guards, limits.objects.4);
      workers = limits.workers;
      size = limits.size;
      room = limits.room;
      time = limits.time;
    }

pub declarations_have_text : (script : ScriptModel) → AreSmall (header_of script) → HasText (IsDeclsText script)
declarations_have_text script small = five_have_text
    (count_has_text (codes "strands") script.strands small.strands)
    (count_has_text (codes "timers") script.timers small.timers)
    (count_has_text (codes "slots") script.slots small.slots)
    (count_has_text (codes "streams") script.world.streams small.streams)
    (count_has_text (codes "guards") script.guards small.guards)
