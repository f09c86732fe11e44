-- The names of reasons, as report lines give them.
use Rattle.std.specs.Prelude.{ℕ, List, codes}
use Rattle.bp_text.specs.declared.fault.TextReason.{TextReason}
use Rattle.bp_text.specs.declared.fault.TextReason.TheVariants as texts
use Rattle.bpsec_facts.specs.declared.reason.PlanReason.{PlanReason}
use Rattle.bpsec_facts.specs.declared.reason.PlanReason.TheVariants as plans
use Rattle.bpsec_answer.specs.declared.status.PiecesReason.{PiecesReason}
use Rattle.bpsec_answer.specs.declared.status.PiecesReason.TheVariants as pieces

abbrev pub text_reason_name : TextReason → List ℕ
text_reason_name texts.TooLong = codes "TooLong"
text_reason_name texts.NotJson = codes "NotJson"
text_reason_name texts.WrongShape = codes "WrongShape"
text_reason_name texts.Version = codes "Version"
text_reason_name texts.TooMany = codes "TooMany"
text_reason_name texts.UnknownWord = codes "UnknownWord"
text_reason_name texts.BadHex = codes "BadHex"
text_reason_name texts.RepeatedName = codes "RepeatedName"
text_reason_name texts.NotABundle = codes "NotABundle"

abbrev pub plan_reason_name : PlanReason → List ℕ
plan_reason_name plans.IsFragment = codes "IsFragment"
plan_reason_name plans.Unreadable = codes "Unreadable"
plan_reason_name plans.BadSplit = codes "BadSplit"
plan_reason_name plans.NoTarget = codes "NoTarget"
plan_reason_name plans.TargetForbidden = codes "TargetForbidden"
plan_reason_name plans.AlreadyThere = codes "AlreadyThere"
plan_reason_name plans.UnderCipher = codes "UnderCipher"
plan_reason_name plans.NumberTaken = codes "NumberTaken"
plan_reason_name plans.NoKey = codes "NoKey"
plan_reason_name plans.KeyLength = codes "KeyLength"
plan_reason_name plans.IvShared = codes "IvShared"
plan_reason_name plans.IvRepeated = codes "IvRepeated"
plan_reason_name plans.NoSharedTarget = codes "NoSharedTarget"
plan_reason_name plans.PartialOverlap = codes "PartialOverlap"
plan_reason_name plans.BibLeftPlain = codes "BibLeftPlain"
plan_reason_name plans.PrimaryCovered = codes "PrimaryCovered"
plan_reason_name plans.BadFlags = codes "BadFlags"
plan_reason_name plans.TooManyBlocks = codes "TooManyBlocks"
plan_reason_name plans.TooLong = codes "TooLong"

abbrev pub pieces_reason_name : PiecesReason → List ℕ
pieces_reason_name pieces.IsFragment = codes "IsFragment"
pieces_reason_name pieces.MustNotFragment = codes "MustNotFragment"
pieces_reason_name pieces.PieceZero = codes "PieceZero"
pieces_reason_name pieces.TooMany = codes "TooMany"
pieces_reason_name pieces.TooLong = codes "TooLong"
pieces_reason_name pieces.NotFragment = codes "NotFragment"
pieces_reason_name pieces.OtherBundle = codes "OtherBundle"
pieces_reason_name pieces.PastTotal = codes "PastTotal"
pieces_reason_name pieces.OverLimit = codes "OverLimit"
pieces_reason_name pieces.OtherBlocks = codes "OtherBlocks"
pieces_reason_name pieces.Disagree = codes "Disagree"
pieces_reason_name pieces.Gap = codes "Gap"
