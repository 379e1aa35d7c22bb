-- The lines that are written for actions are read as those actions.
use Rattle.std.proofs.Common.{◌≡◌, ◌≢◌, ℕ, ◌+◌, eqb, Bool, false, List, [], ◌∷◌, ◌++◌, Option, Some, None, option_map, option_and_then, Ok, IsUtf8, refl, ap, ◌∙◌, append_assoc, ne_eqb}
use Rattle.std.specs.Prelude.{IfSome, codes}
use Rattle.std.specs.List.{All, AllByRecursion, flat_map}
use Rattle.std.proofs.lemmas.Str.{is_utf8-from_IsUtf8}
use Rattle.std.proofs.lemmas.List.Concat.{flat_map-cons}
use Rattle.std.proofs.lemmas.List.Elements.{All-nil, All-cons, All-head, All-tail}
use Rattle.std.proofs.lemmas.List.Splits.{slice_split_at}
use Rattle.serde_json.specs.Data.{Data}
use Rattle.serde_json.specs.Written.{compact_text}
use Rattle.json_text.specs.Laws.{LacksFeed}
use Rattle.json_text.specs.Plain.{IsPlain}
use Rattle.json_text.proofs.Feeds.{text_lacks}
use Rattle.json_text.proofs.Plain.{read-compact_text}
use Rattle.delta_actions.specs.declared.action.Action.{Action}
use Rattle.delta_actions.specs.declared.action.Action.TheVariants as action
use Rattle.delta_actions.specs.Meaning.{action_of, object_action, value_of, line_of, actions_of, lines, then_more, actions_from}
use Rattle.delta_actions.specs.Written.{Fields, object_of, protocol_fields, metadata_fields, add_fields, remove_fields, cdc_fields, domain_fields, info_fields, named, line_data, line_text}
use Rattle.delta_actions.specs.StepsWriting.{HasWholes}
use Rattle.delta_actions.specs.Writable.{IsWritable, AreWritable}
use Rattle.delta_actions.proofs.Kept.{line_plain}
use Rattle.delta_actions.proofs.Back.{protocol_back, metadata_back, add_back, remove_back, cdc_back, domain_back, info_back}

-- the line of the action is text
abbrev pub IsSpelled : Action → Type 0
IsSpelled a = IfSome (line_data a) (λ d. IsUtf8 (compact_text d))

-- ---- one line

value_back : (d : Data) → IsPlain 127 d → IsUtf8 (compact_text d) → value_of (compact_text d) ≡ Some d
value_back d plain utf8 = rw (is_utf8-from_IsUtf8 _ utf8) (read-compact_text d plain)

by_value : (line : List ℕ) (d : Data) → value_of line ≡ Some d → line_of line ≡ object_action d
by_value line d e = ap (option_and_then object_action) e

abbrev one : Option Action → Option (List Action)
one o = option_map (λ a. a ∷ []) o

line_by : (k : List ℕ) (fs : Fields) (a : Action) → IsPlain 127 (named k (object_of fs)) → IsUtf8 (compact_text (named k (object_of fs))) → action_of k (object_of fs) ≡ Some a
    → actions_of (compact_text (named k (object_of fs))) ≡ Some (a ∷ [])
line_by k fs a plain utf8 is =
    let d = named k (object_of fs) in
    ap one (by_value (compact_text d) d (value_back d plain utf8) ∙ is)

line_back : (a : Action) → IsWritable a → HasWholes a → IsSpelled a → IfSome (line_data a) (λ d. actions_of (compact_text d) ≡ Some (a ∷ []))
unfolding line_data action_of
line_back (action.Protocol p) w h utf8 = line_by (codes "protocol") (protocol_fields p) (action.Protocol p) (line_plain (action.Protocol p) w.0 h) utf8 (ap (option_map action.Protocol) (protocol_back p w.0))
line_back (action.Metadata m) w h utf8 = line_by (codes "metaData") (metadata_fields m) (action.Metadata m) (line_plain (action.Metadata m) w.0 h) utf8 (ap (option_map action.Metadata) (metadata_back m w.0 h))
line_back (action.Add a) w h utf8 = line_by (codes "add") (add_fields a) (action.Add a) (line_plain (action.Add a) w.0 h) utf8 (ap (option_map action.Add) (add_back a w.0 w.1 h))
line_back (action.Remove r) w h utf8 = line_by (codes "remove") (remove_fields r) (action.Remove r) (line_plain (action.Remove r) w.0 h) utf8 (ap (option_map action.Remove) (remove_back r w.0 w.1 h))
line_back (action.Cdc c) w h utf8 = line_by (codes "cdc") (cdc_fields c) (action.Cdc c) (line_plain (action.Cdc c) w.0 h) utf8 (ap (option_map action.Cdc) (cdc_back c w.0 h))
line_back (action.Domain d) w h utf8 = line_by (codes "domainMetadata") (domain_fields d) (action.Domain d) (line_plain (action.Domain d) w.0 h) utf8 (ap (option_map action.Domain) (domain_back d w.0))
line_back (action.Info i) w h utf8 = line_by (codes "commitInfo") (info_fields i) (action.Info i) (line_plain (action.Info i) w.0 h) utf8 (ap (λ x. Some (action.Info x)) (info_back i h))
line_back action.Other w h utf8 = tt

has_line : (a : Action) → IsWritable a → line_data a ≢ None
unfolding line_data
has_line (action.Protocol p) w e = cc
has_line (action.Metadata m) w e = cc
has_line (action.Add a) w e = cc
has_line (action.Remove r) w e = cc
has_line (action.Cdc c) w e = cc
has_line (action.Domain d) w e = cc
has_line (action.Info i) w e = cc
has_line action.Other w e = w.1

-- ---- the lines

abbrev is_feed : ℕ → Bool
is_feed b = eqb b 10

other_bytes : (text : List ℕ) → LacksFeed text → All (λ b. is_feed b ≡ false) text
other_bytes [] h = All-nil (λ b. is_feed b ≡ false)
other_bytes (b ∷ text) h = All-cons (λ b. is_feed b ≡ false) b text (ne_eqb b 10 h.0) (other_bytes text h.1)

one_line : (o : Option Data) (a : Action) (rest : List ℕ) (n : ℕ) → o ≢ None → IfSome o (λ d. actions_of (compact_text d) ≡ Some (a ∷ []))
    → actions_from n (lines (line_text o ++ rest)) ≡ then_more (a ∷ []) (actions_from (n + 1) (lines rest))
one_line None a rest n some h = absurd (some refl)
one_line (Some d) a rest n some h =
    ap (λ t. actions_from n (lines t)) (append_assoc (compact_text d) (10 ∷ []) rest)
    ∙ ap (actions_from n) (slice_split_at is_feed (compact_text d) 10 rest (other_bytes (compact_text d) (text_lacks d)) refl) ∙ rw h refl

abbrev pub text_of : List Action → List ℕ
text_of actions = flat_map (λ a. line_text (line_data a)) actions

pub commit_back : (acts : List Action) (n : ℕ) → AreWritable acts → AllByRecursion IsSpelled acts → AllByRecursion HasWholes acts → actions_from n (lines (text_of acts)) ≡ Ok acts
commit_back [] n w utf8 h = refl
commit_back (a ∷ acts) n w utf8 h =
    let writable = All-head IsWritable a acts w in
    ap (λ t. actions_from n (lines t)) (flat_map-cons (λ x. line_text (line_data x)) a acts)
    ∙ one_line (line_data a) a (text_of acts) n (has_line a writable) (line_back a writable h.0 utf8.0)
    ∙ ap (then_more (a ∷ [])) (commit_back acts (n + 1) (All-tail IsWritable a acts w) utf8.1 h.1)
