use Rattle.report_laws.proofs.Readable.{readable_items}
use Rattle.report_laws.proofs.listings.a_readable_listing_has_words.Goals as goal

pub returns : goal.returns
returns c = λ bytes entry p after l source bounds sound read narrow.
    record { bounds = bounds; items = readable_items bytes entry p l.bounds l.items source bounds sound.real sound.unrun_within read; narrow = narrow }
