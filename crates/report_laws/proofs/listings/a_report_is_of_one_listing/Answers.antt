use Rattle.report_laws.proofs.Reports.{one_listing}
use Rattle.report_laws.proofs.listings.a_report_is_of_one_listing.Goals as goal

pub returns : goal.returns
returns c = one_listing
