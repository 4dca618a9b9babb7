use Rattle.one_answer.proofs.OneAnswer.{one_answer}
use Rattle.one_answer.proofs.one_answer.Goals as goal

pub returns : goal.returns
returns c = one_answer
