use Rattle.transcript.proofs.Feeding.{begins_kept}
use Rattle.runner.proofs.chunks.run_script.Goals as goal

pub loop-init : goal.loop-init
loop-init g c = begins_kept c.begin-run.ensures c.args.buffers.now.lengths.0
