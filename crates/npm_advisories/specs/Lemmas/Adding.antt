-- What an index has at each name.
use Rattle.std.proofs.Common.{◌≡◌, ◌∙◌, ◌++◌, ℕ, List, [], ◌∷◌, Bool, true, false, cond, ap}
use Rattle.std.proofs.Common.{Option, Some, None, bytes_eq, is_some, refl, sym, subst}
use Rattle.std.specs.Prelude.{◌||◌}
use Rattle.std.proofs.lemmas.List.{append-nil, append_assoc}
use Rattle.std.proofs.lemmas.List.Elements.{filter-append}
use Rattle.std.specs.List.{AllZip}
use Rattle.npm_advisories.specs.Advisories.{AdvisoryValue, about_name}
use Rattle.npm_advisories.specs.Index.{IsAdvisory, IsIndex, at_name}
use Rattle.npm_advisories.specs.Private.Index.{Adds, named}
use Rattle.npm_advisories.specs.declared.advisory.Advisory.{Advisory}
use Rattle.npm_advisories.specs.declared.index.Index.{Index}

module _ {A B : Type 0} (R : A → B → Type 0) where
  -- two pairs of such lists, one after the other
  pub zip-append : (xs others : List A) (ys more : List B) → AllZip R xs ys → AllZip R others more
      → AllZip R (xs ++ others) (ys ++ more)
  zip-append [] others [] more first second = second
  zip-append [] others (y ∷ ys) more first second = absurd first
  zip-append (x ∷ xs) others [] more first second = absurd first
  zip-append (x ∷ xs) others (y ∷ ys) more first second = (first.0, zip-append xs others ys more first.1 second)

filter-both : (here there : Bool) → there ≡ here → (value : AdvisoryValue) (one : Advisory)
    (values : List AdvisoryValue) (advisories : List Advisory) → IsAdvisory value one
    → AllZip IsAdvisory values advisories
    → AllZip IsAdvisory (cond here (value ∷ values) values) (cond there (one ∷ advisories) advisories)
filter-both true there same value one values advisories is are = rw same (is, are)
filter-both false there same value one values advisories is are = rw same are

-- the advisories about a name were read as those at the name
pub zip-named : (name : List ℕ) (values : List AdvisoryValue) (advisories : List Advisory)
    → AllZip IsAdvisory values advisories → AllZip IsAdvisory (about_name name values) (named name advisories)
zip-named name [] [] are = tt
zip-named name [] (one ∷ advisories) are = absurd are
zip-named name (value ∷ values) [] are = absurd are
zip-named name (value ∷ values) (one ∷ advisories) are =
    let rest = zip-named name values advisories are.1 in
    filter-both (bytes_eq value.name name) (bytes_eq one.name.now name) (ap (λ n. bytes_eq n name) are.0.name) value one
    (about_name name values) (named name advisories) are.0 rest

-- nothing is added
pub adds-none : (is_wanted : List ℕ → Bool) (index : Index) → Adds is_wanted index index []
adds-none is_wanted index = record {
  at = λ name is. record { added = []; read = tt; now = sym (append-nil (at_name index name)) };
}

-- one advisory is added
pub adds-one : (is_wanted : List ℕ → Bool) (old new : Index) (value : AdvisoryValue) (one : Advisory)
    → IsAdvisory value one → ((name : List ℕ) → at_name new name ≡ at_name old name ++ named name (one ∷ []))
    → Adds is_wanted old new (value ∷ [])
adds-one is_wanted old new value one read now = record {
  at = λ name is. record {
    added = named name (one ∷ []);
    read = zip-named name (value ∷ []) (one ∷ []) (read, tt);
    now = now name;
  };
}

-- some, and then others
pub adds-both : (is_wanted : List ℕ → Bool) (a b c : Index) (first second : List AdvisoryValue)
    → Adds is_wanted a b first → Adds is_wanted b c second → Adds is_wanted a c (first ++ second)
adds-both is_wanted a b c first second one other = record {
  at = λ name is.
      let here = one.at name is in
      let there = other.at name is in
      record {
        added = here.added ++ there.added;
        read = subst (λ values. AllZip IsAdvisory values (here.added ++ there.added))
            (sym (filter-append (λ value. bytes_eq value.name name) first second))
            (zip-append IsAdvisory (about_name name first) (about_name name second) here.added there.added here.read
            there.read);
        now = there.now ∙ ap (λ l. l ++ there.added) here.now
            ∙ append_assoc (at_name a name) here.added there.added;
      };
}

-- an index that was empty has the added advisories alone
pub adds-all : (is_wanted : List ℕ → Bool) (old new : Index) (values : List AdvisoryValue)
    → ((name : List ℕ) → at_name old name ≡ []) → Adds is_wanted old new values → IsIndex is_wanted values new
adds-all is_wanted old new values empty adds = λ name is.
    let here = adds.at name is in
    subst (AllZip IsAdvisory (about_name name values))
    (sym (here.now ∙ ap (λ l. l ++ here.added) (empty name))) here.read

-- advisories about no wanted package add nothing
pub adds-other : (is_wanted : List ℕ → Bool) (index : Index) (values : List AdvisoryValue)
    → ((name : List ℕ) → is_wanted name ≡ true → about_name name values ≡ []) → Adds is_wanted index index values
adds-other is_wanted index values none = record {
  at = λ name is. record {
    added = [];
    read = subst (λ l. AllZip IsAdvisory l []) (sym (none name is)) tt;
    now = sym (append-nil (at_name index name));
  };
}

-- one more advisory, if it is about the package with this name
pub one-named : (old : Index) (name : List ℕ) (one : Advisory)
    → at_name old name ++ named name (one ∷ [])
    ≡ cond (bytes_eq one.name.now name) (at_name old name ++ (one ∷ [])) (at_name old name)
one-named old name one = by_name (bytes_eq one.name.now name) refl where
  by_name : (same : Bool) → bytes_eq one.name.now name ≡ same
      → at_name old name ++ named name (one ∷ []) ≡ cond same (at_name old name ++ (one ∷ [])) (at_name old name)
  by_name true is = rw is refl
  by_name false is = rw is (append-nil (at_name old name))

-- ---- names that are wanted

-- one name more
pub name-more : {X : Type 0} (here : Bool) (made : X) (old new : Option X) → new ≡ cond here (Some made) old
    → is_some new ≡ (is_some old || here)
name-more true made None new is = rw is refl
name-more true made (Some x) new is = rw is refl
name-more false made None new is = rw is refl
name-more false made (Some x) new is = rw is refl
