use denote.Param.Send.{sendable}
use Rattle.scalar_texts.proofs.Shared.{pattern_send, pattern_sync}
use Rattle.value_cases.proofs.texts.share_pattern.Goals as goal

pub share-requires-send-T : goal.share-requires-send-T
share-requires-send-T c κs = search (pattern_send, sendable)

pub share-requires-sync-T : goal.share-requires-sync-T
share-requires-sync-T c κs = search (pattern_sync, sendable)
