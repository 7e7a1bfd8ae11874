use Rattle.report_laws.proofs.Beginnings.{listing_begins_none, walk_begins_none, listing_begins_no_walk, walk_begins_no_listing}
use Rattle.report_laws.proofs.kinds.no_report_begins_another.Goals as goal

pub returns-clause-listing : goal.returns-clause-listing
returns-clause-listing c = listing_begins_none

pub returns-clause-walk : goal.returns-clause-walk
returns-clause-walk c = walk_begins_none

pub returns-clause-listing_walk : goal.returns-clause-listing_walk
returns-clause-listing_walk c = listing_begins_no_walk

pub returns-clause-walk_listing : goal.returns-clause-walk_listing
returns-clause-walk_listing c = walk_begins_no_listing
