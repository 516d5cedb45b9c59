-- What the definitions say of the problems of a lock file: a link, and a package whose dependency is found nowhere.
use Rattle.std.proofs.Common.{◌≡◌, ◌≢◌, ◌<◌, ◌==◌, ◌&&◌, ℕ, zero, suc, List, [], ◌∷◌, Bool, true, false, not, length}
use Rattle.std.proofs.Common.{Some, None, Ordering, Less, Equal, Greater, ap, arith, codes, inl, inr, is_eq, nat_cmp}
use Rattle.std.proofs.Common.{refl}
use Rattle.std.proofs.Common.{get_or}
use Rattle.std.specs.Cmp.Lexicographic.{slice_cmp}
use Rattle.std.specs.List.{Contains, list_all}
use Rattle.std.specs.List.Sorted.{IsStrictlySortedBy}
use Rattle.std.specs.Option.{IsSome}
use Rattle.serde_json.specs.Data.{Data, Members, boolean, member, no_members, object, string}
use Rattle.npm_packages.specs.Asked.{AreNames, AskedValue, asked_of}
use Rattle.npm_packages.specs.Edges.{edge_of}
use Rattle.npm_lock.specs.Findings.{AreFindings, AreMemberFindings, dependency, of_dependency, of_package}
use Rattle.npm_lock.specs.Findings.{ArePackageFindings}
use Rattle.npm_lock.specs.Outcomes.{ProblemValue, dependency_of, missing, wrong}
use Rattle.npm_lock.specs.declared.problem.Kind.TheVariants.{Missing}
use Rattle.npm_packages.specs.Packages.{IsFound, above, nowhere}
use Rattle.npm_texts.specs.Lemmas.Keys.{exact}

abbrev pub asker : Data
asker = object (member (codes "dependencies") (object (member (codes "a") (string (codes "^1")) no_members)) no_members)

abbrev pub link : Data
link = object (member (codes "link") (boolean true)
    (member (codes "resolved") (string (codes "node_modules/p")) no_members))

abbrev pub members : Members
members = member (codes "node_modules/l") link (member (codes "node_modules/p") asker no_members)

abbrev pub packages : Data
packages = object members

-- ---- the name

asked_name : (o : Ordering) (name : List ℕ) → slice_cmp nat_cmp name (codes "a") ≡ o
    → IsSome (asked_of asker true name) → name ≡ codes "a"
asked_name Less name is some = let none = rw is at some in cc none
asked_name Equal name is some = exact name (codes "a") (ap is_eq is)
asked_name Greater name is some = let none = rw is at some in cc none

only_name : (name : List ℕ) → Contains (codes "a" ∷ []) name → codes "a" ≡ name
only_name name (zero, small, is) = is
only_name name (suc k, small, is) = absurd (omega (arith, small))

one_name : AreNames asker true (codes "a" ∷ [])
unfolding IsStrictlySortedBy
one_name = record {
  ascending = (tt, tt);
  all = λ name. (
    (λ among. rw (← only_name name among) refl),
    (λ some. let is = asked_name _ name refl some in rw is (0, omega arith, refl)),
  );
}

-- ---- the folders above

both_true : (x y : Bool) → (x && y) ≡ true → y ≡ true
both_true true y is = is
both_true false y is = cc is

no_slash : (text : List ℕ) → list_all (λ b. not (b == 47)) text ≡ true → (i : ℕ) → i < length text
    → get_or text i 0 ≢ 47
no_slash [] none i small is = absurd (omega (arith, small))
no_slash (b ∷ text) none zero small is = let never = rw is at none in cc never
no_slash (b ∷ text) none (suc i) small is = no_slash text (both_true (not (b == 47)) _ none) i (omega (arith, small)) is

nowhere_found : IsFound packages (codes "a") (codes "node_modules/p") None
nowhere_found = above _ (codes "node_modules") None (inr (inr refl))
    (record { inside = refl; name = codes "p"; one_part = no_slash (codes "p") refl; whole = inl refl })
    (above _ [] None (inr (inl refl))
    (record {
      inside = refl;
      name = codes "node_modules";
      one_part = no_slash (codes "node_modules") refl;
      whole = inr (refl, (λ no. cc no), refl);
    })
    (nowhere _ (inr (inr refl)) (inl refl)))

-- ---- the findings

abbrev pub asked : AskedValue
asked = record { spec = codes "^1"; is_needed = true; is_peer = false; is_dev = false; is_overridden = false }

abbrev pub problem : ProblemValue
problem = record { kind = Missing; dependency = dependency_of asker (edge_of (codes "node_modules/p") (codes "a") asked None) }

of_p : ArePackageFindings packages None (codes "node_modules/p") asker
    (of_package None ∷ of_dependency (Some problem) None ∷ [])
of_p = record {
  problem = None;
  dependencies = of_dependency (Some problem) None ∷ [];
  of_node = refl;
  of_dependencies = record {
    is_installed = true;
    installed = ((λ _. inl refl), (λ _. refl));
    names = codes "a" ∷ [];
    are_names = one_name;
    each = (
      dependency asked (wrong Missing None) refl
          (missing nowhere_found refl),
      tt,
    );
  };
  whole = refl;
}

-- nothing is found out about the link, and the package has no problem with Node and one missing dependency
pub a_link_and_a_package : AreFindings packages None members (of_package None ∷ of_dependency (Some problem) None ∷ [])
a_link_and_a_package = ([], _, refl, (_, [], of_p, refl, refl), refl)

-- and nothing else can be found out about a link
pub no_more_about_a_link : ¬ AreMemberFindings packages None (codes "node_modules/l") link (of_package None ∷ [])
no_more_about_a_link found = cc found
