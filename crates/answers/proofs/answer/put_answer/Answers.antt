use Rattle.answers.proofs.Items.{answer_ok, answer_no}
use Rattle.text.proofs.Puts.{then, room_first, room_then}
use Rattle.answers.specs.Answers.{answer_text}
use Rattle.answers.proofs.answer.put_answer.Goals as goal

pub put_reply-a-requires : goal.put_reply-a-requires
unfolding answer_text
put_reply-a-requires c = room_first _ c.requires.room

pub returns-in_default : goal.returns-in_default
returns-in_default c = rw (answer_no _ _ _ _ c.in_default.is) c.put_reply-a.ensures

pub put_cycles-requires : goal.put_cycles-requires
put_cycles-requires c = record {
  inside = rw c.in-Ok.is at c.requires.inside;
  room = room_then c.put_reply-a.ensures (rw (answer_ok _ _ _ _ c.in-Ok.is) at c.requires.room);
}

pub returns : goal.returns
returns c = rw (answer_ok _ _ _ _ c.in-Ok.is) (then c.put_reply-a.ensures c.put_cycles.ensures)
