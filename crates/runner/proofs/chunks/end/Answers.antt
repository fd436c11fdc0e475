use Rattle.std.proofs.Common.{ap, refl, ◌∙◌}
use Rattle.std.proofs.lemmas.List.Edits.{sets}
use Rattle.runner.proofs.Lines.{last_closed}
use Rattle.runner.proofs.chunks.end.Goals as goal

pub returns : goal.returns
returns g c = record {
  totals = λ tables. c.finish_within-to.ensures.0.bytes ∙ ap (sets c.args.buffers.now.out 0) (last_closed c.args.run.now c.args.buffers.now.carry c.requires.1 tables);
  others = (refl, refl);
}
