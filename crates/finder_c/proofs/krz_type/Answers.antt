-- `krz_type` tells the verdict by its refusal's number. Assumes nothing.
use Rattle.finder_c.proofs.krz_type.Goals as goal

pub returns : goal.returns
returns c = record { answer = c.type_byte.result; promised = c.type_byte.ensures.promise; same = c.number_of.ensures }
