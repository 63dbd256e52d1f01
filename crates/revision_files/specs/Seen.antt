-- What is seen of a feed that is read in part.
use Rattle.revision_files.specs.declared.feed.FeedRead.{FeedRead}
use Rattle.revision_files.specs.Feeds.{Feed}

abbrev pub seen : FeedRead → Feed
seen feed = record { revisions = feed.revisions.items; blocks = feed.blocks; fields = feed.fields }
