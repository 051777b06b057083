-- What is spelled in a version is spelled so in a later one.
use Rattle.std.proofs.Common.{ℕ, List, Option, inl, inr}
use Rattle.session_script.specs.declared.act.Act.{Act}
use Rattle.session_script.specs.declared.act.Act.TheVariants as act
use Rattle.session_script.specs.declared.act.Bodies.{Bodies}
use Rattle.session_script.specs.Script.{Place, Entry}
use Rattle.session_script.specs.Text.{Words, IsLater, IsPlugText, IsTail, BelongsTo, IsFieldsText, IsActText, IsBodyText, in_braces, IsActsText, no_act, an_act, IsBodiesText, no_body, one_body, all_bodies, IsBranchText, left_out, spelled_out}

module _ (first second : ℕ) (later : IsLater second) where
  later_plug : (slot : Option ℕ) (filter : ℕ) (ws rest : Words) → IsPlugText first slot filter ws rest →
      IsPlugText second slot filter ws rest
  later_plug slot filter ws rest (inl p) = inl p
  later_plug slot filter ws rest (inr p) = inr (later, p.1)

  later_tail : (strand slot : Option ℕ) (filter : ℕ) (ws rest : Words) → IsTail first strand slot filter ws rest →
      IsTail second strand slot filter ws rest
  later_tail strand slot filter ws rest p = (p.0, p.1, later_plug slot filter p.0 rest p.2)

  later_belongs : (made : Act) → BelongsTo second made
  later_belongs (act.ExpiresAt timer at) = later
  later_belongs (act.Post strand) = tt
  later_belongs (act.Defer strand) = tt
  later_belongs (act.Dispatch strand) = tt
  later_belongs (act.Expires timer after) = tt
  later_belongs (act.Wait timer strand slot filter) = tt
  later_belongs (act.Cancel timer) = tt
  later_belongs (act.CancelOne timer) = tt
  later_belongs (act.Emit slot kinds) = tt
  later_belongs (act.ReadSome stream size strand slot filter) = tt
  later_belongs (act.ReadAll stream size strand slot filter) = tt
  later_belongs (act.Until stream delimiter max strand slot filter) = tt
  later_belongs (act.WriteSome stream bytes strand slot filter) = tt
  later_belongs (act.WriteAll stream bytes strand slot filter) = tt
  later_belongs (act.Close stream) = tt
  later_belongs (act.Release guard) = tt
  later_belongs act.Stop = tt

  later_fields : (made : Act) (ws rest : Words) → IsFieldsText first made ws rest → IsFieldsText second made ws rest
  later_fields (act.Post strand) ws rest p = p
  later_fields (act.Defer strand) ws rest p = p
  later_fields (act.Dispatch strand) ws rest p = p
  later_fields (act.Expires timer after) ws rest p = p
  later_fields (act.ExpiresAt timer at) ws rest p = p
  later_fields (act.Wait timer strand slot filter) ws rest p = (p.0, p.1, later_tail strand slot filter p.0 rest p.2)
  later_fields (act.Cancel timer) ws rest p = p
  later_fields (act.CancelOne timer) ws rest p = p
  later_fields (act.Emit slot kinds) ws rest p = p
  later_fields (act.ReadSome stream size strand slot filter) ws rest p =
      (p.0, p.1, p.2, p.3, later_tail strand slot filter p.1 rest p.4)
  later_fields (act.ReadAll stream size strand slot filter) ws rest p =
      (p.0, p.1, p.2, p.3, later_tail strand slot filter p.1 rest p.4)
  later_fields (act.Until stream delimiter max strand slot filter) ws rest p =
      (p.0, p.1, p.2, p.3, p.4, p.5, later_tail strand slot filter p.2 rest p.6)
  later_fields (act.WriteSome stream bytes strand slot filter) ws rest p =
      (p.0, p.1, p.2, p.3, later_tail strand slot filter p.1 rest p.4)
  later_fields (act.WriteAll stream bytes strand slot filter) ws rest p =
      (p.0, p.1, p.2, p.3, later_tail strand slot filter p.1 rest p.4)
  later_fields (act.Close stream) ws rest p = p
  later_fields (act.Release guard) ws rest p = p
  later_fields act.Stop ws rest p = p

  later_act : (made : Act) (ws rest : Words) → IsActText first made ws rest → IsActText second made ws rest
  later_act made ws rest p = (p.0, later_belongs made, p.2, later_fields made p.0 rest p.3)

  mutual
    pub later_body : {levels : ℕ} {place : Place} {before after : List Entry} {ws rest : Words} →
        IsBodyText first levels place before after ws rest → IsBodyText second levels place before after ws rest
    later_body (in_braces a b opened acts closed) = in_braces a b opened (later_acts acts) closed

    later_acts : {levels : ℕ} {place : Place} {before after : List Entry} {ws rest : Words} →
        IsActsText first levels place before after ws rest → IsActsText second levels place before after ws rest
    later_acts no_act = no_act
    later_acts (an_act made with_bodies a b act_is bodies_are others) =
        an_act made with_bodies a b (later_act made _ a act_is) (later_bodies bodies_are) (later_acts others)

    later_bodies : {levels : ℕ} {which : Bodies} {op : ℕ} {before after : List Entry} {ws rest : Words} →
        IsBodiesText first levels which op before after ws rest →
        IsBodiesText second levels which op before after ws rest
    later_bodies no_body = no_body
    later_bodies (one_body body) = one_body (later_body body)
    later_bodies (all_bodies after_ok after_abort a b ok abort other) =
        all_bodies after_ok after_abort a b (later_body ok) (later_branch abort) (later_branch other)

    later_branch : {levels : ℕ} {text : List ℕ} {place : Place} {before after : List Entry} {ws rest : Words} →
        IsBranchText first levels text place before after ws rest →
        IsBranchText second levels text place before after ws rest
    later_branch left_out = left_out
    later_branch (spelled_out a word body) = spelled_out a word (later_body body)
