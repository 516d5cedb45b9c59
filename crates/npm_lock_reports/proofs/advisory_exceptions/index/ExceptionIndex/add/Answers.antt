-- The ids of the name have one place more.
use Rattle.std.proofs.Common.{◌≡◌, ◌∙◌, Some, ap, arith, bytes_eq, cond, map, nat_cmp, string_bytes, subst, unwrap_or}
use Rattle.std.proofs.lemmas.Map.Text.{text_keys}
use Rattle.std.proofs.lemmas.Result.{on_ok_weaker}
use Rattle.std.proofs.lemmas.Slice.Eq.{bytes_eq-Decides}
use Rattle.std.specs.BTreeMap.{get_by, get_by_text}
use Rattle.std.specs.Char.{to_ascii_lowercase}
use Rattle.std.specs.Cmp.Lexicographic.{nat_list_eq_equiv, slice_cmp}
use Rattle.npm_lock_reports.specs.Places.{is_same_id}
use Rattle.std.specs.Option.{option_and_then}
use Rattle.npm_lock_reports.proofs.Indexing.{none-there, one-more, there-before}
use Rattle.npm_lock_reports.proofs.advisory_exceptions.index.ExceptionIndex.add.Goals as goal

pub returns : goal.returns
returns c = on_ok_weaker c.put.result (λ puts name id.
    one-more (λ ids. get_by_text ids (map to_ascii_lowercase id)) c.args.place
    (is_same_id (string_bytes c.args.exception.now.id) id) (bytes_eq (string_bytes c.args.exception.now.name) name) _
    (get_by (λ k. slice_cmp nat_cmp name k.now) c.args.self.now.by_name) c.or_insert-ids.result.now c.put.new.ids
    (grind (arith, text_keys))
    (λ here. subst (λ n. get_by_text c.or_insert-ids.result.now (map to_ascii_lowercase id)
    ≡ option_and_then (λ ids. get_by_text ids (map to_ascii_lowercase id)) (get_by (λ k. slice_cmp nat_cmp n k.now) c.args.self.now.by_name))
    (c.as_str-2.ensures.value ∙ (bytes_eq-Decides (string_bytes c.args.exception.now.name) name).0 here)
    (there-before (λ ids. get_by_text ids (map to_ascii_lowercase id)) _ c.or_insert-ids.result.now c.new.result
    (none-there c.new.result c.new.ensures.empty (map to_ascii_lowercase id))
    (c.or_insert-ids.ensures.value ∙ ap (λ o. unwrap_or o c.new.result) c.in_ok-self.ensures.value)))
    (puts (map to_ascii_lowercase id) ∙ ap (λ b. cond b (Some c.args.place)
    (get_by_text c.or_insert-ids.result.now (map to_ascii_lowercase id)))
    (ap (λ t. bytes_eq t (map to_ascii_lowercase id)) (c.in_ok-id.ensures.ok ∙ ap (map to_ascii_lowercase) c.as_str.ensures.value)
    ∙ nat_list_eq_equiv.symm (map to_ascii_lowercase (string_bytes c.args.exception.now.id)) (map to_ascii_lowercase id))))
    c.put.ensures
