-- `krz_rub_out` tells the verdict by its refusal's number. Assumes nothing.
use Rattle.finder_c.proofs.krz_rub_out.Goals as goal

pub returns : goal.returns
returns c = record { answer = c.rub_out.result; promised = c.rub_out.ensures.promise; same = c.number_of.ensures }
