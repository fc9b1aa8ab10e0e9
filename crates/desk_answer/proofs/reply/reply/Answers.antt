-- `reply::reply`: the lines of what was found are the reply, and so is a refusal's.
-- Assumes nothing.
use Rattle.desk_answer.proofs.Asking.{refusal_told, names_short, hits_told}
use Rattle.desk_answer.proofs.reply.reply.Goals as goal

pub put_hits-requires-clause-names : goal.put_hits-requires-clause-names
put_hits-requires-clause-names c = names_short _ _ _ _ _ _ _ c.in-Ok.ensures

pub returns-in-Ok : goal.returns-in-Ok
returns-in-Ok c = rw (hits_told _ _ _ _ _ _ _ c.in-Ok.ensures) at c.put_hits.ensures

pub returns-in-Err : goal.returns-in-Err
returns-in-Err c = rw (refusal_told _ _ _ _ c.in-Err.why c.in-Err.ensures) at c.put_refusal.ensures
