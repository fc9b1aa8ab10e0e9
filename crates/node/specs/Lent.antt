-- The columns that a call is lent.
use Rattle.node.specs.declared.columns.Columns as lent
use Rattle.node.specs.Columns.{IndexColumns, index_columns}

abbrev pub columns_of : lent.Columns → IndexColumns
columns_of c = index_columns c.text.now c.starts.now c.lengths.now c.shared.now c.region.now c.score.now
