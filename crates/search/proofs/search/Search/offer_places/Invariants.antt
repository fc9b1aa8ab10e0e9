-- What the loop of `Search::offer_places` keeps.
use Rattle.search.specs.Searches.{columns_of, stands_offered}
use Rattle.search.proofs.Offering.{Offering}
use Rattle.search.proofs.search.Search.offer_places.Given as goal

abbrev pub invariant-loop-stand : goal.invariant-loop-stand
invariant-loop-stand l =
    Offering (columns_of l.self) l.self.grid l.self.asked l.stand-items (stands_offered (columns_of l.self) l.self.grid l.self.asked l.stand-items l.initial.held) l.held l.stand-index
