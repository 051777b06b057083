-- A poster before and after one call.
use Rattle.std.proofs.Common.{◌≡◌, ℕ, ◌+◌, ◌-◌, ◌<◌, ◌≤◌, List, [], ◌∷◌, ◌++◌, refl, sym, subst, ◌∙◌, arith}
use Rattle.strand_core.specs.declared.posted.Posted.{Posted}
use Rattle.lane_clock.specs.Seats.{ClockId}
use Rattle.lane_turns.specs.Pens.{HasDrawnCall, HasDrawnCalls, PenView}
use Rattle.lane_turns.specs.Posting.{IsPosting, PosterView, TakesCalls, TakesNext}
use Rattle.lane_turns.proofs.PenLemmas.{drawn_call, gone_clock}
use Rattle.lane_turns.proofs.PostingLemmas.{takes_next}

-- the poster takes this call
pub takes_now : (inside now : PosterView) (call : Posted) → inside ≡ now → TakesNext now (call ∷ []) →
    TakesCalls inside.script inside.pen inside.spare (call ∷ [])
takes_now inside now call same taken =
    subst (λ view. TakesCalls view.script view.pen view.spare (call ∷ [])) (sym same) (taken (call ∷ []) [] refl)

-- after the call its pen has come further from its start
pub posts_on : (clock : ClockId) (start : PenView) (inside : PosterView) (call : Posted) (pen : PenView)
    (made : List Posted) (spare : ℕ) → IsPosting clock start inside → HasDrawnCall inside.script call inside.pen pen →
    made ≡ inside.made ++ call ∷ [] →
    IsPosting clock start (record { script = inside.script; pen = pen; made = made; spare = spare })
posts_on clock start inside call pen made spare posting drawn same =
    record {
      clock_is = gone_clock drawn.labels inside.pen pen drawn.gone ∙ posting.clock_is;
      fits = posting.fits;
      drawn =
          subst (λ calls. HasDrawnCalls inside.script calls start pen) (sym same)
          (drawn_call inside.script inside.made call start inside.pen pen posting.drawn drawn);
    }

-- what followed the call is taken next
pub takes_later : (inside now : PosterView) (call : Posted) (pen : PenView) (made : List Posted) (spare : ℕ) →
    inside ≡ now → HasDrawnCall inside.script call inside.pen pen → inside.spare ≡ spare + 1 →
    (rest : List Posted) → TakesNext now (call ∷ rest) →
    TakesNext (record { script = inside.script; pen = pen; made = made; spare = spare }) rest
takes_later inside now call pen made spare same drawn less rest taken =
    takes_next call inside (record { script = inside.script; pen = pen; made = made; spare = spare }) refl drawn less
    rest (subst (λ view. TakesNext view (call ∷ rest)) (sym same) taken)

-- one place of the buffer less
pub spare_less : (room count left more : ℕ) → left ≡ room → more ≡ count + 1 → count < room →
    room - count ≡ (left - more) + 1
spare_less room count left more same longer within = omega (arith, same, longer, within)

-- the room stays
pub room_stays : (need old new : ℕ) → new ≡ old → need ≤ old → need ≤ new
room_stays need old new same enough = omega (arith, same, enough)
