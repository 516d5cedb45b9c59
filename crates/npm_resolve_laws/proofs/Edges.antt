-- Nothing is wrong with any dependency, with any package, and so in the whole lock file.
use Rattle.std.proofs.Common.{◌≡◌, ◌∙◌, ◌≢◌, ◌↔◌, ◌++◌, ℕ, List, [], ◌∷◌, Bool, IsTrue, None, Option, Ordering, Less, Equal, Greater, Some, ap, bytes_eq, codes, cond, false, inl, inr, is_eq, map, nat_cmp, option_and_then, option_map, refl, subst, sym, true}
use Rattle.std.proofs.lemmas.List.Elements.{All-cons, All-head, All-nil, All-tail, All-weaker}
use Rattle.std.proofs.lemmas.Map.Text.{is_eq-slice_cmp}
use Rattle.std.proofs.lemmas.Slice.Eq.{bytes_eq-Decides}
use Rattle.std.specs.List.{All, AllZip, filter_map}
use Rattle.std.specs.Option.{option_map_or}
use Rattle.std.specs.Cmp.Lexicographic.{slice_cmp}
use Rattle.serde_json.proofs.Views.{get_member-put, get_member-put_other}
use Rattle.serde_json.specs.Data.{Data, Members, boolean, member, no_members, number, object, put, unsigned}
use Rattle.serde_json.specs.Find.{as_object, as_str, get, get_member}
use Rattle.npm_packages.specs.Asked.{AskedValue, accepted_of, asked_of}
use Rattle.npm_packages.specs.Folders.{IsInstalled, place_in}
use Rattle.npm_packages.specs.LastParts.{IsPlain}
use Rattle.npm_packages.specs.Overrides.{changed_by, overridden, rule_among, rule_for, rule_in}
use Rattle.npm_packages.specs.Packages.{IsFound, Package, is_link, package_at, target_of, version_of}
use Rattle.npm_lock.specs.Findings.{AreFindings, AreMemberFindings, ArePackageFindings, Finding, IsChecked, IsDependencyFinding, of_dependency, of_package, problem_of}
use Rattle.npm_lock.specs.Findings as Findings
use Rattle.npm_lock.specs.Outcomes.{IsOutcome, IsVerdictOn, JudgementValue, ProblemValue, problem_value}
use Rattle.npm_lock.specs.Outcomes as Outcomes
use Rattle.npm_lock.specs.Verdict.{IsVerdict, IsVerdictOfBoth, asks_for_any}
use Rattle.npm_lock.specs.Verdict as Verdicts
use Rattle.npm_lock.specs.declared.problem.Problem.{Problem}
use Rattle.npm_lock.specs.declared.problem.Problems.{Problems}
use Rattle.node_semver.specs.Versions.{VersionValue}
use Rattle.npm_texts.specs.Admission.{Admits, IsNoRange, of_dependencies}
use Rattle.npm_texts.specs.InstalledVersions.{IsInstalledVersion}
use Rattle.npm_texts.specs.SpecGrammar.{IsSpec, SpecValue, in_registry, is_tag, location, refused}
use Rattle.npm_texts.specs.SpecLaws.{IsOneSpec}
use Rattle.npm_texts.specs.Truth.{is_true}
use Rattle.npm_resolve.specs.Installed.{InstalledValue, found, found_after, later_found}
use Rattle.npm_resolve.specs.Lock.{IsLock, packages_of, root_package, with_package, with_packages}
use Rattle.npm_resolve.specs.Members.{package_data, root_data, with_copy}
use Rattle.npm_resolve.specs.declared.flat_locks.marks.Marks.{Marks}
use Rattle.npm_resolve_laws.specs.Met.{AreAllMet, AreMet, IsInside, IsKept, IsMet}
use Rattle.npm_resolve_laws.specs.Met as Meeting
use Rattle.npm_resolve_laws.proofs.Folders.{IsFlat, at_root, dir, from_package, has_slash, inner, never, not_at_root, not_plain, pick, slash_in}
use Rattle.npm_resolve_laws.proofs.Members.{asks_of_package, asks_of_root, differ, no_link, not_of_root, nothing_accepted, version_of_package}

-- ---- the members of `packages`

pub same_text : (x y : List ℕ) → bytes_eq x y ≡ true → x ≡ y
same_text x y h = (bytes_eq-Decides x y).0 h

-- two names have two folders
place_one : (x y : List ℕ) → place_in [] x ≡ place_in [] y → x ≡ y
place_one x y is = cc is

module _ (marks_of : List ℕ → Marks) where
  abbrev data_of : Option InstalledValue → Option Data
  data_of one = option_map (λ (o : InstalledValue). package_data o (marks_of o.name)) one

  -- under the folder of a name is the package that is installed under it
  at_place : (installed : List InstalledValue) (before : Option InstalledValue) (ms : Members) (name : List ℕ)
      → get_member (place_in [] name) ms ≡ data_of before
      → get_member (place_in [] name) (with_packages marks_of installed ms) ≡ data_of (found_after before installed name)
  at_place [] before ms name is = is
  at_place (one ∷ others) before ms name is =
      at_place others (later_found before one name) (with_package marks_of one ms) name (by_name (bytes_eq one.name name) refl) where
        by_name : (b : Bool) → bytes_eq one.name name ≡ b
            → get_member (place_in [] name) (with_package marks_of one ms) ≡ data_of (later_found before one name)
        by_name true same = rw same (subst (λ (n : List ℕ). get_member (place_in [] n) (with_package marks_of one ms) ≡ data_of (Some one))
            (same_text one.name name same) (get_member-put (place_in [] one.name) (package_data one (marks_of one.name)) ms))
        by_name false off = rw off (get_member-put_other (place_in [] name) (place_in [] one.name) (package_data one (marks_of one.name)) ms
            (λ same. differ one.name name off (sym (place_one name one.name same))) ∙ is)

  -- any other folder is that of no package
  elsewhere : (installed : List InstalledValue) (ms : Members) (folder : List ℕ)
      → All (λ (one : InstalledValue). folder ≢ place_in [] one.name) installed
      → get_member folder (with_packages marks_of installed ms) ≡ get_member folder ms
  elsewhere [] ms folder apart = refl
  elsewhere (one ∷ others) ms folder apart =
      elsewhere others (with_package marks_of one ms) folder (All-tail (λ (o : InstalledValue). folder ≢ place_in [] o.name) one others apart)
      ∙ get_member-put_other folder (place_in [] one.name) (package_data one (marks_of one.name)) ms
      (All-head (λ (o : InstalledValue). folder ≢ place_in [] o.name) one others apart)

-- a folder of the root's `node_modules` is not the root
no_place : (name : List ℕ) → [] ≡ place_in [] name → ⊥
no_place name is = cc is

-- ---- one dependency

-- it is no problem
abbrev pub IsFine : JudgementValue → Type 0
IsFine judgement = (folder : List ℕ) (asker : Data) (name : List ℕ) (asked : AskedValue)
    → problem_of (Findings.finding_of folder asker name asked judgement) ≡ None

-- a spec beside which no other is accepted
alone : (version : Option (List ℕ)) (spec : List ℕ) {verdict : _} → IsVerdictOfBoth version spec None verdict → IsVerdict version spec verdict
alone version spec (Verdicts.alone _ none is) = is
alone version spec (Verdicts.valid is) = is
alone version spec (Verdicts.both other first second some one two) = absurd (cc some)

-- nothing is wrong with a spec that a version may stand for
abbrev pub OneSpec : Type 0
OneSpec = (text : List ℕ) → IsOneSpec text

abbrev pub read_range : SpecValue → List ℕ
read_range (in_registry range) = range
read_range location = []
read_range refused = []

module _ (one_spec : OneSpec) (version spec : List ℕ) where
  not_refused : IsKept version spec → IsSpec spec refused → ⊥
  not_refused (Meeting.elsewhere is) off = let same = one_spec spec location refused is off in (cc same)
  not_refused (Meeting.any range is any) off = let same = one_spec spec (in_registry range) refused is off in (cc same)
  not_refused (Meeting.tag range is none tag) off = let same = one_spec spec (in_registry range) refused is off in (cc same)
  not_refused (Meeting.inside range v is some read all) off = let same = one_spec spec (in_registry range) refused is off in (cc same)

  module _ (range : List ℕ) (here : IsSpec spec (in_registry range)) where
    same_range : (other : List ℕ) → IsSpec spec (in_registry other) → other ≡ range
    same_range other is = ap read_range (one_spec spec (in_registry other) (in_registry range) is here)

    not_elsewhere : IsSpec spec location → ⊥
    not_elsewhere is = let same = one_spec spec location (in_registry range) is here in (cc same)

    no_bad_range : IsKept version spec → asks_for_any range ≡ false → IsNoRange of_dependencies range → is_tag range ≡ false → ⊥
    no_bad_range (Meeting.elsewhere is) off none plain = not_elsewhere is
    no_bad_range (Meeting.any other is any) off none plain =
        let so = subst (λ (t : List ℕ). asks_for_any t ≡ true) (same_range other is) any in (cc (so, off))
    no_bad_range (Meeting.tag other is bad tag) off none plain =
        let so = subst (λ (t : List ℕ). is_tag t ≡ true) (same_range other is) tag in (cc (so, plain))
    no_bad_range (Meeting.inside other v is some read all) off none plain =
        some (subst (λ (t : List ℕ). IsNoRange of_dependencies t) (sym (same_range other is)) none)

    not_outside : IsKept version spec → asks_for_any range ≡ false → ¬ IsNoRange of_dependencies range → (v : VersionValue)
        → IsInstalledVersion version v → ¬ Admits of_dependencies range v → ⊥
    not_outside (Meeting.elsewhere is) off some v read out = not_elsewhere is
    not_outside (Meeting.any other is any) off some v read out =
        let so = subst (λ (t : List ℕ). asks_for_any t ≡ true) (same_range other is) any in (cc (so, off))
    not_outside (Meeting.tag other is bad tag) off some v read out =
        some (subst (λ (t : List ℕ). IsNoRange of_dependencies t) (same_range other is) bad)
    not_outside (Meeting.inside other w is kept first all) off some v read out =
        out (subst (λ (t : List ℕ). Admits of_dependencies t v) (same_range other is) (all v read))

    not_unread : IsKept version spec → asks_for_any range ≡ false → ¬ IsNoRange of_dependencies range
        → ((v : VersionValue) → ¬ IsInstalledVersion version v) → ⊥
    not_unread (Meeting.elsewhere is) off some none = not_elsewhere is
    not_unread (Meeting.any other is any) off some none =
        let so = subst (λ (t : List ℕ). asks_for_any t ≡ true) (same_range other is) any in (cc (so, off))
    not_unread (Meeting.tag other is bad tag) off some none =
        some (subst (λ (t : List ℕ). IsNoRange of_dependencies t) (same_range other is) bad)
    not_unread (Meeting.inside other w is kept first all) off some none = none w first

module _ (one_spec : OneSpec) (packages : Data) (installed : List InstalledValue) (marks_of : List ℕ → Marks)
    (placed : (name : List ℕ) → get (place_in [] name) packages ≡ data_of marks_of (found installed name)) where
  link_free : (one : InstalledValue) → is_link (package_data one (marks_of one.name)) ≡ false
  link_free one = ap (λ o. option_map_or is_true o false) (no_link one (marks_of one.name))

  -- the package that is found in the folder of a name
  some_at : (name : List ℕ) (one : InstalledValue) → found installed name ≡ Some one → package_at packages (place_in [] name)
      ≡ Some (record { folder = place_in [] name; member = package_data one (marks_of one.name) })
  some_at name one is = ap (option_and_then (pick packages (place_in [] name))) (placed name ∙ ap (data_of marks_of) is)
      ∙ ap (λ b. cond b (target_of packages (package_data one (marks_of one.name)))
      (Some (record { folder = place_in [] name; member = package_data one (marks_of one.name) }))) (link_free one)

  none_at : (name : List ℕ) → found installed name ≡ None → package_at packages (place_in [] name) ≡ None
  none_at name is = ap (option_and_then (pick packages (place_in [] name))) (placed name ∙ ap (data_of marks_of) is)

  module _ (folder : List ℕ) (asker : Data) (is_installed : Bool) (name : List ℕ) (asked : AskedValue)
      (to_root : (found : Option Package) → IsFound packages name folder found → IsFound packages name [] found)
      (own : (found : Package) → is_installed ≡ true → package_at packages (place_in folder name) ≡ Some found → ⊥)
      (accepts : accepted_of asker name ≡ None)
      (plain : (one : InstalledValue) → found installed name ≡ Some one → IsPlain name) where
    missed : (one : InstalledValue) → found installed name ≡ Some one → IsFound packages name folder None → ⊥
    missed one there is = elim (not_at_root packages name (to_root None is)) [
      | inl odd ↦ odd (plain one there)
      | inr none ↦ let off = sym (some_at name one there) ∙ none in (cc off)
    ]

    -- what npm_lock reads of the package that is found
    same_version : (one : InstalledValue) (here : Package) → found installed name ≡ Some one
        → IsFound packages name folder (Some here) → version_of here.member ≡ Some one.version
    same_version one here there is =
        let at = sym (at_root packages name here (to_root (Some here) is)) ∙ some_at name one there in
        let same : here ≡ record { folder = place_in [] name; member = package_data one (marks_of one.name) } = cc at in
        ap (λ (p : Package). version_of p.member) same ∙ ap (option_and_then as_str) (version_of_package one (marks_of one.name))

    verdict_alone : (one : InstalledValue) (here : Package) {verdict : _} → version_of here.member ≡ Some one.version
        → IsVerdictOfBoth (version_of here.member) asked.spec (accepted_of asker name) verdict
        → IsVerdict (Some one.version) asked.spec verdict
    verdict_alone one here version whole = alone (Some one.version) asked.spec (rw (version, accepts) at whole)

    wrong_unneeded : (here : Package) → found installed name ≡ None → IsFound packages name folder (Some here) → ⊥
    wrong_unneeded here none is =
        let off = sym (at_root packages name here (to_root (Some here) is)) ∙ none_at name none in (cc off)

    pub edge_fine : (judgement : JudgementValue) → IsMet installed name asked
        → IsOutcome packages folder asker is_installed name asked judgement → IsFine judgement
    edge_fine _ met (Outcomes.absent is unneeded) = λ f a n k. refl
    edge_fine _ (Meeting.met one there kept) (Outcomes.missing is needed) = absurd (missed one there is)
    edge_fine _ (Meeting.unneeded none free) (Outcomes.missing is needed) = absurd (cc (free, needed))
    edge_fine _ met (Outcomes.local_peer here is peer) = absurd (own here peer.installed peer.own.found)
    edge_fine _ (Meeting.met one there kept) (Outcomes.invalid here is apart (Outcomes.by_spec _ none unchanged whole)) =
        absurd (elim (verdict_alone one here (same_version one here there is) whole) [
          | Verdicts.never bad ↦ not_refused one_spec one.version asked.spec kept bad
          | Verdicts.of_text range _ spec_is text ↦ elim text [
            | Verdicts.bad_range off bad plain ↦ no_bad_range one_spec one.version asked.spec range spec_is kept off bad plain
            | Verdicts.unsatisfied written v off some same read out ↦
                not_outside one_spec one.version asked.spec range spec_is kept off some v
                (let this : one.version ≡ written = cc same in subst (λ (t : List ℕ). IsInstalledVersion t v) (sym this) read) out
            | Verdicts.no_version off some unread ↦ not_unread one_spec one.version asked.spec range spec_is kept off some unread
          ]
        ])
    edge_fine _ (Meeting.unneeded none free) (Outcomes.invalid here is apart verdict) = absurd (wrong_unneeded here none is)
    edge_fine _ met (Outcomes.valid here is apart verdict) = λ f a n k. refl
    edge_fine _ met (Outcomes.unchecked here reason is apart verdict) = λ f a n k. refl

-- ---- all of them

-- findings without a problem
abbrev pub AreFine : List Finding → Type 0
AreFine findings = filter_map problem_of findings ≡ []

fine_cons : (finding : Finding) (findings : List Finding) → problem_of finding ≡ None → AreFine findings → AreFine (finding ∷ findings)
fine_cons finding findings here rest = rw here rest

fine_append : (xs ys : List Finding) → AreFine xs → AreFine ys → AreFine (xs ++ ys)
fine_append [] ys here rest = rest
fine_append (x ∷ xs) ys here rest = by_problem (problem_of x) refl here (λ all. fine_append xs ys all rest) where
  by_problem : (p : Option ProblemValue) → problem_of x ≡ p → AreFine (x ∷ xs) → (AreFine xs → AreFine (xs ++ ys)) → AreFine (x ∷ (xs ++ ys))
  by_problem None none all later = rw none (later (rw none at all))
  by_problem (Some problem) some all later = absurd (let off = rw some at all in (cc off))

all_fine : (packages : Data) (folder : List ℕ) (asker : Data) (is_installed : Bool) (names : List (List ℕ)) (findings : List Finding)
    → ((name : List ℕ) (finding : Finding) → IsDependencyFinding packages folder asker is_installed name finding → problem_of finding ≡ None)
    → AllZip (IsDependencyFinding packages folder asker is_installed) names findings → AreFine findings
all_fine packages folder asker is_installed [] [] each all = refl
all_fine packages folder asker is_installed [] (f ∷ findings) each all = absurd all
all_fine packages folder asker is_installed (n ∷ names) [] each all = refl
all_fine packages folder asker is_installed (n ∷ names) (f ∷ findings) each all =
    fine_cons f findings (each n f all.0) (all_fine packages folder asker is_installed names findings each all.1)

-- ---- members

-- each member is so
abbrev pub AllMembers : (P : List ℕ → Data → Type 0) → Members → Type 0
AllMembers P no_members = Unit {0}
AllMembers P (member folder entry others) = P folder entry × AllMembers P others

all_put : (P : List ℕ → Data → Type 0) (k : List ℕ) (d : Data) (ms : Members) → P k d → AllMembers P ms → AllMembers P (put k d ms)
all_put P k d no_members here all = (here, tt)
all_put P k d (member l e ms) here all = by_order (slice_cmp nat_cmp k l) refl (all_put P k d ms here all.1) where
  by_order : (o : Ordering) → slice_cmp nat_cmp k l ≡ o → AllMembers P (put k d ms) → AllMembers P (put k d (member l e ms))
  by_order Less is later = rw is (here, all)
  by_order Equal is later =
      let same : k ≡ l = same_text k l (sym (is_eq-slice_cmp k l) ∙ ap is_eq is) in
      rw is (subst (λ (key : List ℕ). P key d) same here, all.1)
  by_order Greater is later = rw is (all.0, later)

all_packages : (P : List ℕ → Data → Type 0) (marks_of : List ℕ → Marks) (installed : List InstalledValue) (ms : Members)
    → All (λ (one : InstalledValue). P (place_in [] one.name) (package_data one (marks_of one.name))) installed → AllMembers P ms
    → AllMembers P (with_packages marks_of installed ms)
all_packages P marks_of [] ms each all = all
all_packages P marks_of (one ∷ others) ms each all =
    all_packages P marks_of others (with_package marks_of one ms)
    (All-tail (λ (o : InstalledValue). P (place_in [] o.name) (package_data o (marks_of o.name))) one others each)
    (all_put P (place_in [] one.name) (package_data one (marks_of one.name)) ms
    (All-head (λ (o : InstalledValue). P (place_in [] o.name) (package_data o (marks_of o.name))) one others each) all)

-- the findings of a member are fine
abbrev pub IsFineMember : (packages : Data) → (folder : List ℕ) → (entry : Data) → Type 0
IsFineMember packages folder entry = (findings : List Finding) → AreMemberFindings packages None folder entry findings → AreFine findings

fine_members : (packages : Data) (ms : Members) → AllMembers (IsFineMember packages) ms → (findings : List Finding)
    → AreFindings packages None ms findings → AreFine findings
fine_members packages no_members all findings is = rw is refl
fine_members packages (member folder entry others) all findings is =
    rw is.4 (fine_append is.0 is.1 (all.0 is.0 is.2) (fine_members packages others all.1 is.1 is.3))

member_fine : (packages : Data) (folder : List ℕ) (entry : Data) → is_link entry ≡ false
    → ((is_installed : Bool) → (IsTrue is_installed ↔ IsInstalled folder) → (name : List ℕ) (finding : Finding)
    → IsDependencyFinding packages folder entry is_installed name finding → problem_of finding ≡ None)
    → IsFineMember packages folder entry
member_fine packages folder entry link each findings is =
    let are : ArePackageFindings packages None folder entry findings = rw link at is in
    let deps = are.of_dependencies in
    rw are.whole (fine_cons (of_package are.problem) are.dependencies are.of_node
    (all_fine packages folder entry deps.is_installed deps.names are.dependencies (each deps.is_installed deps.installed) deps.each))

-- ---- the root and the packages

-- what holds of all packages holds of the one that is found, and it has the name
pub found_so : (P : InstalledValue → Type 0) (installed : List InstalledValue) (before : Option InstalledValue) (name : List ℕ)
    (one : InstalledValue) → All P installed → (before ≡ Some one → P one × (one.name ≡ name))
    → found_after before installed name ≡ Some one → P one × (one.name ≡ name)
found_so P [] before name one all was is = was is
found_so P (first ∷ others) before name one all was is =
    found_so P others (later_found before first name) name one (All-tail P first others all) (by_name (bytes_eq first.name name) refl) is where
      by_name : (b : Bool) → bytes_eq first.name name ≡ b → later_found before first name ≡ Some one → P one × (one.name ≡ name)
      by_name true same here =
          let taken : Some first ≡ Some one = rw same at here in
          let this : first ≡ one = cc taken in
          subst (λ (o : InstalledValue). P o × (o.name ≡ name)) this (All-head P first others all, same_text first.name name same)
      by_name false off here = was (rw off at here)

installed_place : (name : List ℕ) → IsInstalled (place_in [] name)
installed_place name = inl refl

not_installed : IsInstalled [] → ⊥
not_installed (inl is) = cc is
not_installed (inr is) = never [] (ap has_slash is.2 ∙ slash_in is.0 (codes "node_modules/" ++ is.1)) refl

module _ (one_spec : OneSpec) (root : Data) (installed : List InstalledValue) (marks_of : List ℕ → Marks) (met : AreMet root installed) where
  abbrev members : Members
  members = packages_of root installed marks_of

  abbrev packages : Data
  packages = object members

  placed : (name : List ℕ) → get (place_in [] name) packages ≡ data_of marks_of (found installed name)
  placed name = at_place marks_of installed None (root_package root) name refl

  inside : (name : List ℕ) (one : InstalledValue) → found installed name ≡ Some one → IsPlain name
  inside name one there =
      let is = found_so (λ (o : InstalledValue). IsInside o.name) installed None name one met.names (λ off. absurd (cc off)) there in
      subst IsPlain is.1 is.0.plain

  root_there : get [] packages ≡ Some (root_data root)
  root_there = elsewhere marks_of installed (root_package root) [] (All-weaker (λ (o : InstalledValue). IsInside o.name)
      (λ (o : InstalledValue). [] ≢ place_in [] o.name) (λ o is. no_place o.name) installed met.names)

  flat : (name : List ℕ) → IsFlat packages name
  flat name text = elsewhere marks_of installed (root_package root) (inner (dir ++ (47 ∷ text)) name)
      (All-weaker (λ (o : InstalledValue). IsInside o.name) (λ (o : InstalledValue). inner (dir ++ (47 ∷ text)) name ≢ place_in [] o.name)
      (λ o is same. let this : inner text name ≡ o.name = cc same in not_plain text name (subst IsPlain (sym this) is.plain)) installed met.names)

  no_rule : (name : List ℕ) → rule_for packages name ≡ None
  no_rule name = ap (option_and_then (λ (r : Data). rule_in r name)) root_there
      ∙ ap (λ o. option_and_then (rule_among name) (option_and_then as_object o)) (not_of_root (codes "overrides") root refl refl refl)

  unchanged : (folder name : List ℕ) (asked : AskedValue) → overridden packages folder name asked ≡ asked
  unchanged folder name asked = ap (λ r. changed_by r folder asked) (no_rule name)

  -- a finding about a dependency that is met
  finding_fine : (folder : List ℕ) (asker : Data) (is_installed : Bool) (name : List ℕ) (finding : Finding)
      → ((asked : AskedValue) (judgement : JudgementValue) → asked_of asker is_installed name ≡ Some asked
      → IsOutcome packages folder asker is_installed name asked judgement → IsFine judgement)
      → IsDependencyFinding packages folder asker is_installed name finding → problem_of finding ≡ None
  finding_fine folder asker is_installed name finding fine (Findings.dependency asked judgement there outcome) =
      fine asked judgement there (subst (λ (a : AskedValue). IsOutcome packages folder asker is_installed name a judgement)
      (unchanged folder name asked) outcome) folder asker name (overridden packages folder name asked)

  root_edges : (is_installed : Bool) → (IsTrue is_installed ↔ IsInstalled []) → (name : List ℕ) (finding : Finding)
      → IsDependencyFinding packages [] (root_data root) is_installed name finding → problem_of finding ≡ None
  root_edges true is name finding of = absurd (not_installed (is.0 refl))
  root_edges false is name finding of = finding_fine [] (root_data root) false name finding (λ asked judgement there outcome.
      edge_fine one_spec packages installed marks_of placed [] (root_data root) false name asked (λ f h. h) (λ f off h. cc off)
      (ap (λ o. option_and_then as_str (option_and_then (get name) o)) (not_of_root (codes "acceptDependencies") root refl refl refl))
      (inside name) judgement
      (met.of_root name asked (sym (asks_of_root root name) ∙ there)) outcome) of

  module _ (one : InstalledValue) (is_inside : IsInside one.name) (all_met : AreAllMet installed one.manifest true) where
    package_edges : (is_installed : Bool) → (IsTrue is_installed ↔ IsInstalled (place_in [] one.name)) → (name : List ℕ)
        (finding : Finding) → IsDependencyFinding packages (place_in [] one.name) (package_data one (marks_of one.name)) is_installed name finding
        → problem_of finding ≡ None
    package_edges false is name finding of = absurd (let off : false ≡ true = is.1 (installed_place one.name) in (cc off))
    package_edges true is name finding of =
        finding_fine (place_in [] one.name) (package_data one (marks_of one.name)) true name finding (λ asked judgement there outcome.
        edge_fine one_spec packages installed marks_of placed (place_in [] one.name) (package_data one (marks_of one.name)) true name asked
        (from_package packages name (flat name) one.name is_inside.plain is_inside.down)
        (λ f on h. let none : package_at packages (place_in (place_in [] one.name) name) ≡ None =
        ap (option_and_then (pick packages (place_in (place_in [] one.name) name))) (flat name one.name) in
        let off = sym h ∙ none in (cc off))
        (ap (λ o. option_and_then as_str (option_and_then (get name) o)) (nothing_accepted one (marks_of one.name))) (inside name) judgement
        (all_met name asked (sym (asks_of_package one (marks_of one.name) name) ∙ there)) outcome) of

    package_fine : IsFineMember packages (place_in [] one.name) (package_data one (marks_of one.name))
    package_fine = member_fine packages (place_in [] one.name) (package_data one (marks_of one.name))
        (link_free one_spec packages installed marks_of placed one) package_edges

  root_fine : IsFineMember packages [] (root_data root)
  root_fine = member_fine packages [] (root_data root) (ap (λ o. option_map_or is_true o false) (not_of_root (codes "link") root refl refl refl)) root_edges

  each_fine : (some : List InstalledValue) → All (λ (o : InstalledValue). IsInside o.name) some
      → All (λ (o : InstalledValue). AreAllMet installed o.manifest true) some
      → All (λ (o : InstalledValue). IsFineMember packages (place_in [] o.name) (package_data o (marks_of o.name))) some
  each_fine [] names all = All-nil (λ (o : InstalledValue). IsFineMember packages (place_in [] o.name) (package_data o (marks_of o.name)))
  each_fine (one ∷ others) names all =
      All-cons (λ (o : InstalledValue). IsFineMember packages (place_in [] o.name) (package_data o (marks_of o.name))) one others
      (package_fine one (All-head (λ (o : InstalledValue). IsInside o.name) one others names)
      (All-head (λ (o : InstalledValue). AreAllMet installed o.manifest true) one others all))
      (each_fine others (All-tail (λ (o : InstalledValue). IsInside o.name) one others names)
      (All-tail (λ (o : InstalledValue). AreAllMet installed o.manifest true) one others all))

  members_fine : AllMembers (IsFineMember packages) members
  members_fine = all_packages (IsFineMember packages) marks_of installed (root_package root)
      (each_fine installed met.names met.of_packages) (root_fine, tt)

  pub findings_fine : (findings : List Finding) → AreFindings packages None members findings → AreFine findings
  findings_fine = fine_members packages members members_fine

no_items : (list : List Problem) → map problem_value list ≡ [] → list ≡ []
no_items [] is = refl
no_items (p ∷ list) is = absurd (cc is)

-- the members of a lock file beside `packages`
abbrev others : (root : Data) → Members
others root = put (codes "requires") (boolean true) (put (codes "lockfileVersion") (number (unsigned 3))
    (with_copy (codes "version") root (with_copy (codes "name") root no_members)))

pub nothing_wrong : OneSpec → (root lock : Data) (installed : List InstalledValue) (problems : Problems) → AreMet root installed
    → IsLock root installed lock → IsChecked lock None problems → problems.list.items ≡ []
nothing_wrong one_spec root lock installed problems met is checked =
    let there : get (codes "packages") lock ≡ Some (object (packages_of root installed is.marks_of)) =
    ap (get (codes "packages")) is.whole ∙ get_member-put (codes "packages") (object (packages_of root installed is.marks_of)) (others root) in
    let both : Some (object checked.members) ≡ Some (object (packages_of root installed is.marks_of)) = sym checked.packages ∙ there in
    let same : checked.members ≡ packages_of root installed is.marks_of = cc both in
    no_items problems.list.items (checked.report.list ∙ findings_fine one_spec root installed is.marks_of met checked.found
    (subst (λ (ms : Members). AreFindings (object ms) None ms checked.found) same checked.findings))
