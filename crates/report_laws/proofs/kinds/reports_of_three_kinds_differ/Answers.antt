use Rattle.report_laws.proofs.Reports.{listing_or_walk, listing_or_trace, walk_or_trace}
use Rattle.report_laws.proofs.kinds.reports_of_three_kinds_differ.Goals as goal

pub returns-clause-listing_walk : goal.returns-clause-listing_walk
returns-clause-listing_walk c = listing_or_walk

pub returns-clause-listing_trace : goal.returns-clause-listing_trace
returns-clause-listing_trace c = listing_or_trace

pub returns-clause-walk_trace : goal.returns-clause-walk_trace
returns-clause-walk_trace c = walk_or_trace
