-- What holds of lines.
use Rattle.op_places.specs.Laws.{LineLaw}
use Rattle.op_places.proofs.Fresh.{past_none}
use Rattle.op_places.proofs.Makes.{past_stays}
use Rattle.op_places.proofs.Moving.{past_more, past_back, past_rebase, past_once}

pub line_law : LineLaw
line_law = record {
  begins = λ set t none. past_none set t none;
  more = λ set O ops rest k t plain past. past_more set O ops rest k t plain past;
  back = λ set O ops k l t le past. past_back set O ops k l t le past;
  stays = λ set O ops k e f stays past. past_stays set O ops k e f stays past;
  rebase = λ set O ops d t plain fits past. past_rebase set O ops d t plain fits past;
  once = λ set O P ops t plain other one two. past_once set O P ops t plain other one two;
}
