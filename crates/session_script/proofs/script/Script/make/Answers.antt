use Rattle.std.proofs.Common.{rules, arith}
use Rattle.session_script.specs.Outcome.{model_of}
use Rattle.session_script.proofs.PlacesLemmas.{length-entries}
use Rattle.session_script.proofs.PlacingLemmas.{entries_are_few}
use Rattle.session_script.proofs.script.Script.make.Goals as goal

pub lanes-requires : goal.lanes-requires
lanes-requires c = rw c.as_slice.ensures.value (entries_are_few c.args.parts c.requires)

pub places-requires : goal.places-requires
places-requires c = rw c.as_slice-2.ensures.value (entries_are_few c.args.parts c.requires)

pub invariant_of-result : goal.invariant_of-result
unfolding model_of
invariant_of-result c = record {
  few = omega (arith, entries_are_few c.args.parts c.requires, length-entries c.args.parts.acts.items);
  lanes = search rules;
  places = search rules;
  reads_back = c.requires;
}
