use Rattle.std.proofs.Common.{◌≡◌, List, [], ◌∷◌, ◌++◌, ℕ, false, Option, Some, option_map, IfSome, IsUtf8, sym, ap, ◌∙◌, subst, append_assoc}
use Rattle.serde_json.specs.Data.{Data}
use Rattle.serde_json.specs.View.{view}
use Rattle.serde_json.specs.Written.{compact_text, has_float}
use Rattle.delta_actions.specs.Written.{line_data, line_text}
use Rattle.delta_actions.proofs.Kept.{line_none}
use Rattle.delta_actions.proofs.writing.add_line.Goals as goal

grown : (o : Option Data) (d : Data) (text old mid new : List ℕ) → Some d ≡ o → IfSome o (λ x. has_float x ≡ false) → (has_float d ≡ false → text ≡ compact_text d)
    → mid ≡ old ++ text → new ≡ mid ++ 10 ∷ [] → new ≡ old ++ line_text o
grown o d text old mid new is none same put fed =
    let whole : has_float d ≡ false = subst (λ x. IfSome x (λ y. has_float y ≡ false)) (sym is) none in
    fed ∙ ap (λ m. m ++ 10 ∷ []) (put ∙ ap (λ t. old ++ t) (same whole)) ∙ append_assoc old (compact_text d) (10 ∷ []) ∙ ap (λ x. old ++ line_text x) is

spelled : (o : Option Data) (d : Data) (text : List ℕ) → Some d ≡ o → IfSome o (λ x. has_float x ≡ false) → (has_float d ≡ false → text ≡ compact_text d) → IsUtf8 text → IfSome o (λ x. IsUtf8 (compact_text x))
spelled o d text is none same utf8 =
    let whole : has_float d ≡ false = subst (λ x. IfSome x (λ y. has_float y ≡ false)) (sym is) none in
    subst (λ x. IfSome x (λ y. IsUtf8 (compact_text y))) is (subst IsUtf8 (same whole) utf8)

pub returns-in_ok-push-clause-text : goal.returns-in_ok-push-clause-text
returns-in_ok-push-clause-text c =
    let known : Some (view c.in-Some.value) ≡ line_data c.args.action.now = sym (ap (option_map view) c.in-Some.is) ∙ c.in_ok-value.ensures.value in
    grown _ (view c.in-Some.value) c.in_ok-text.text.items c.args.bytes.now c.extend_from_slice.new.self c.push.new.self known (line_none c.args.action.now) c.in_ok-text.ensures.text
    (c.in_ok-extend_from_slice.ensures.ok ∙ ap (λ t. c.args.bytes.now ++ t) c.as_slice.ensures.value) c.in_ok-push.ensures.ok

pub returns-in_ok-push-clause-utf8 : goal.returns-in_ok-push-clause-utf8
returns-in_ok-push-clause-utf8 c =
    let known : Some (view c.in-Some.value) ≡ line_data c.args.action.now = sym (ap (option_map view) c.in-Some.is) ∙ c.in_ok-value.ensures.value in
    spelled _ (view c.in-Some.value) c.in_ok-text.text.items known (line_none c.args.action.now) c.in_ok-text.ensures.text c.in_ok-text.ensures.utf8
