-- The folder is in one of the sets, or in none.
use Rattle.std.proofs.Common.{◌≡◌, ◌∙◌, false, inl, inr, is_some, nat_cmp, refl, sym}
use Rattle.std.specs.BTreeMap.{get_by}
use Rattle.std.specs.Cmp.Lexicographic.{slice_cmp}
use Rattle.npm_lock.specs.Private.Patterns.{HasText}
use Rattle.npm_lock.proofs.patterns.Patterns.has_matched.Goals as goal

pub returns-then-contains_key : goal.returns-then-contains_key
returns-then-contains_key c =
    let there : HasText c.args.self.now.folders c.args.folder.now =
    rw c.as_bytes-folder.ensures.value at (sym c.contains_key.ensures ∙ c.if-contains_key.true) in
    ((λ is. inl there), (λ has. refl))

pub returns-else-has_start : goal.returns-else-has_start
returns-else-has_start c =
    let gone : is_some (get_by (λ k. slice_cmp nat_cmp c.args.folder.now k.now) c.args.self.now.folders) ≡ false =
    rw c.as_bytes-folder.ensures.value at (sym c.contains_key.ensures ∙ c.if-contains_key.false) in (
      (λ is. inr (inr (rw c.as_bytes-folder.ensures.value at (c.has_start-else-has_start.ensures.0 is)))),
      (λ has. elim has [
        | inl there ↦ cc (gone, there)
        | inr others ↦ elim others [
          | inl star ↦
              cc (c.has_start.ensures.1 (rw c.as_bytes-folder.ensures.value star), c.if-has_start.false)
          | inr tree ↦ c.has_start-else-has_start.ensures.1 (rw c.as_bytes-folder.ensures.value tree)
        ]
      ]),
    )
