-- The lock file is refused, or the report is made of its parts.
use Rattle.std.proofs.Common.{◌∙◌, inl, inr, map, refl, sym}
use Rattle.serde_json.specs.View.{view}
use Rattle.npm_advisories.specs.Audit.{found_value}
use Rattle.npm_manifest_files.specs.Linked.{loaded_value}
use Rattle.npm_lock_check.specs.Report.{manifests_of, placed, wanted_value}
use Rattle.npm_lock_check.proofs.Auditing.{length_same, refused_audit, refused_lock, refused_sound, some_same}
use Rattle.npm_lock_check.proofs.Stopping.{passed_on}
use Rattle.npm_lock_check.proofs.checks.check.report_of.Goals as goal

pub returns-in_err-mismatches-clause-refused : goal.returns-in_err-mismatches-clause-refused
returns-in_err-mismatches-clause-refused c =
    passed_on c.from_residual.result _ _ c.from_residual.ensures.1
    (λ error same. rw same (inl c.in_err-mismatches.ensures.refused))

pub returns-in_err-lock-clause-refused : goal.returns-in_err-lock-clause-refused
returns-in_err-lock-clause-refused c =
    let told = refused_lock (view c.args.lock) (placed (view c.args.lock)
    (manifests_of (wanted_value c.args.wanted).manifest (loaded_value c.args.loaded).linked))
    (loaded_value c.args.loaded).linked (wanted_value c.args.wanted) _
    (rw c.in_ok-mismatches.ensures.placed at c.in_err-lock.ensures.refused) in
    passed_on c.from_residual-in_err-lock.result _ _ c.from_residual-in_err-lock.ensures.1
    (λ error same. rw same told)

pub returns-in-Err-check_folders-clause-refused : goal.returns-in-Err-check_folders-clause-refused
returns-in-Err-check_folders-clause-refused c =
    inr (inr (inl (rw (rw c.in_ok-mismatches.ensures.placed at c.in_ok-lock.ensures.made) at
    (rw c.in-Ok-sound_lock.ensures.file at c.in-Err-check_folders.ensures.refused))))

pub returns-in-Err-clause-refused : goal.returns-in-Err-clause-refused
returns-in-Err-clause-refused c =
    let all = placed (view c.args.lock)
    (manifests_of (wanted_value c.args.wanted).manifest (loaded_value c.args.loaded).linked) in
    refused_lock (view c.args.lock) all (loaded_value c.args.loaded).linked
    (wanted_value c.args.wanted) c.in-Err.error
    (refused_sound all (view c.in_ok-lock.lock) (wanted_value c.args.wanted).manifest c.in-Err.error
    c.in_ok-lock.ensures.later (rw c.in_ok-mismatches.ensures.placed at c.in_ok-lock.ensures.made)
    (rw c.in_ok-mismatches.ensures.placed at c.in_ok-lock.ensures.sound) c.in-Err.ensures.refused)

pub returns-in-Err-counted_of-clause-refused : goal.returns-in-Err-counted_of-clause-refused
returns-in-Err-counted_of-clause-refused c =
    refused_audit (view c.args.lock) (placed (view c.args.lock)
    (manifests_of (wanted_value c.args.wanted).manifest (loaded_value c.args.loaded).linked))
    (view c.in_ok-lock.lock) (loaded_value c.args.loaded).linked (wanted_value c.args.wanted) c.in-Err-counted_of.error
    (rw c.in_ok-mismatches.ensures.placed at c.in_ok-lock.ensures.made)
    (rw c.in-Ok-sound_lock.ensures.file at c.in-Err-counted_of.ensures.refused)

pub returns-in-Ok-output-clause-found : goal.returns-in-Ok-output-clause-found
returns-in-Ok-output-clause-found c =
    let made = rw c.in_ok-mismatches.ensures.placed at c.in_ok-lock.ensures.made in (
      map found_value c.in-Ok-counted_of.counted.found.items,
      record {
        compared = c.is_compared-compared.ensures;
        mismatches = c.in_ok-mismatches.ensures.mismatches;
        exact = refl;
        strict = refl;
        unread = rw made at c.in_ok-unread.ensures.all;
        problems = rw made at (rw (c.deref.ensures.value, c.in-Ok-sound_lock.ensures.file) at c.in-Ok-problems_of.ensures);
        hit = rw made at (rw c.in-Ok-sound_lock.ensures.file at c.in-Ok-counted_of.ensures.found);
        own = rw made at (rw c.in-Ok-sound_lock.ensures.file at c.in_default-check_folders.ensures.own);
        sources = rw made at (rw (c.in-Ok.ensures, c.file.ensures.file, c.in-Ok-sound_lock.ensures.file) at c.leave_out_sources.ensures);
        needed = rw made at (rw (c.told_omissions-groups.ensures, c.in-Ok-sound_lock.ensures.file) at c.in-Ok-needed_of.ensures);
        audited = c.is_some.ensures ∙ some_same (λ file. view file.now) c.args.wanted.advisories;
        hits = c.len.ensures ∙ sym (rw c.deref-2.ensures.value at c.deref-2.ensures.len) ∙ length_same found_value
            c.in-Ok-counted_of.counted.found.items;
        omitted = rw made at c.count_of.ensures;
        listed = refl;
      },
      rw c.deref-2.ensures.value at c.in-Ok-output.ensures,
    )
