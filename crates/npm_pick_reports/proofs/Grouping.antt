-- Texts by the names of packages.
use Rattle.std.proofs.Common.{◌≡◌, ◌∙◌, ◌<◌, Bor, ap, append-nil, ◌+◌, ◌++◌, ℕ, List, [], ◌∷◌, Bool, bytes_eq, cond, get_or, length, map, refl, sym, take, true, false}
use Rattle.std.proofs.lemmas.List.{map-append, map_more}
use Rattle.std.proofs.lemmas.List.Elements.{filter-append}
use Rattle.npm_texts.specs.RegistrySpec.{RegistrySpecValue, registry_spec_value}
use Rattle.npm_pick_reports.specs.Mirror.{texts_for}
use Rattle.npm_pick_reports.specs.Private.Requests.{at_name, named}
use Rattle.npm_pick_reports.specs.declared.mirror.requests.Groups.{Groups}
use Rattle.npm_texts.specs.declared.registry.RegistrySpec.{RegistrySpec}

texts-append : (name : List ℕ) (xs ys : List RegistrySpecValue)
    → texts_for name (xs ++ ys) ≡ texts_for name xs ++ texts_for name ys
texts-append name xs ys = rw (filter-append (λ (request : RegistrySpecValue). bytes_eq request.name name) xs ys)
    (map-append (λ (request : RegistrySpecValue). request.text) _ _)

one-text : (name : List ℕ) (one : RegistrySpec)
    → map (λ text. text.now) (named name one) ≡ texts_for name (registry_spec_value one ∷ [])
one-text name one = here (bytes_eq one.name.now name)
  where
    here : (is : Bool) → map (λ (text : Bor (List ℕ)). text.now) (cond is (one.text ∷ []) [])
        ≡ map (λ (request : RegistrySpecValue). request.text) (cond is (registry_spec_value one ∷ []) [])
    here true = refl
    here false = refl

-- one request more
pub texts_more : (name : List ℕ) (requests : List RegistrySpec) (i : ℕ) (none : RegistrySpec)
    (old new : List (Bor (List ℕ))) → i < length requests → new ≡ old ++ named name (get_or requests i none)
    → map (λ text. text.now) old ≡ texts_for name (map registry_spec_value (take i requests))
    → map (λ text. text.now) new ≡ texts_for name (map registry_spec_value (take (i + 1) requests))
texts_more name requests i none old new small is held =
    let one = get_or requests i none in
    let before = map registry_spec_value (take i requests) in
    ap (map (λ (text : Bor (List ℕ)). text.now)) is
    ∙ map-append (λ (text : Bor (List ℕ)). text.now) old (named name one)
    ∙ ap (λ l. l ++ map (λ (text : Bor (List ℕ)). text.now) (named name one)) held
    ∙ ap (λ l. texts_for name before ++ l) (one-text name one)
    ∙ sym (texts-append name before (registry_spec_value one ∷ []))
    ∙ ap (texts_for name) (sym (map_more registry_spec_value requests i none small))

-- the texts of a name, with those of one request more
pub with-named : (old : Groups) (name : List ℕ) (one : RegistrySpec) → at_name old name ++ named name one
    ≡ cond (bytes_eq one.name.now name) (at_name old name ++ (one.text ∷ [])) (at_name old name)
with-named old name one = here (bytes_eq one.name.now name)
  where
    here : (is : Bool) → at_name old name ++ cond is (one.text ∷ []) []
        ≡ cond is (at_name old name ++ (one.text ∷ [])) (at_name old name)
    here true = refl
    here false = append-nil (at_name old name)
