use Rattle.search.proofs.Steps.{rows_header, rows_as}
use Rattle.search.proofs.rows_of.Goals as goal

pub returns-in-Header : goal.returns-in-Header
returns-in-Header c = rows_header _ _ c.in-Header.is

pub returns-in-All : goal.returns-in-All
returns-in-All c = rows_as _ _ _ c.in-All.is c.section_rows.ensures

pub returns-in-Listed : goal.returns-in-Listed
returns-in-Listed c = rows_as _ _ _ c.in-Listed.is c.listed_rows.ensures
