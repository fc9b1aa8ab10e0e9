-- What the loop of `Search::take_entries` keeps.
use Rattle.search.specs.Searches.{columns_of, listed_on}
use Rattle.search.proofs.Taking.{Taking}
use Rattle.search.proofs.search.Search.take_entries.Given as goal

abbrev pub invariant-loop-number : goal.invariant-loop-number
invariant-loop-number l =
    Taking (columns_of l.self) l.self.grid l.self.asked l.self.order.now l.entries (listed_on (columns_of l.self) l.self.grid l.self.asked l.self.order.now l.entries l.fn.listing l.initial.held) l.held l.number l.number-end
