-- `words::rooms::has_words` meets its contract: from its place on, or from the room's end. Assumes nothing.
use Rattle.words.proofs.Overs.{starts_there}
use Rattle.words.proofs.rooms.has_words.Goals as goal

pub returns : goal.returns
returns c = starts_there c.args.room.now _ c.args.at _ c.min.ensures c.starts_with.ensures.value
