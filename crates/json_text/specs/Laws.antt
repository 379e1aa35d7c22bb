-- What holds of texts and the values that they are read as.
use Rattle.std.specs.Prelude.{◌≡◌, ◌≢◌, ℕ, List, Some}
use Rattle.std.specs.List.{AllByRecursion}
use Rattle.serde_json.specs.Data.{Data}
use Rattle.serde_json.specs.Read.{read}
use Rattle.serde_json.specs.Written.{compact_text}
use Rattle.json_text.specs.Plain.{IsSorted, IsPlain}

-- the compact text of a plain value reads as that value
abbrev pub PlainReadsBack : Type 0
PlainReadsBack = (d : Data) → IsPlain 127 d → read (compact_text d) ≡ Some d

-- no byte of the text is a line feed
abbrev pub LacksFeed : List ℕ → Type 0
LacksFeed text = AllByRecursion (λ b. b ≢ 10) text

-- a value's compact text is one line, also where its texts have line feeds
abbrev pub CompactIsOneLine : Type 0
CompactIsOneLine = (d : Data) → LacksFeed (compact_text d)

-- a value that was read has its objects in order
abbrev pub ReadIsSorted : Type 0
ReadIsSorted = (text : List ℕ) → (d : Data) → read text ≡ Some d → IsSorted d
