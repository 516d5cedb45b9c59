-- The list grows by what `extend` takes from the option.
use Rattle.std.proofs.Common.{◌≡◌, ◌++◌, [], ◌∷◌, List, Option, Some, None, map, map-id, option_map}
use Rattle.std.proofs.lemmas.Iterator.Adapters.{YieldsList-from_once, fact_from_extend}
use Rattle.std.proofs.lemmas.List.{map-append}
use Rattle.std.specs.Option.{option_to_list}
use Rattle.npm_lock.specs.Mismatches.{mismatch_value}
use Rattle.npm_lock.specs.declared.mismatch.Mismatch.{Mismatch}
use Rattle.npm_lock.proofs.manifest.add_found.Goals as goal

listed : (old new more : List Mismatch) (found : Option Mismatch) → map (λ x. x) more ≡ option_to_list found
    → new ≡ old ++ more
    → map mismatch_value new ≡ map mismatch_value old ++ option_to_list (option_map mismatch_value found)
listed old new more None is grows = rw (grows, ← map-id more, is) (map-append mismatch_value old [])
listed old new more (Some found) is grows = rw (grows, ← map-id more, is) (map-append mismatch_value old (found ∷ []))

pub returns : goal.returns
returns c = fact_from_extend (λ x. x) c.extend.result c.extend.ensures.ran
    (λ it is. YieldsList-from_once c.args.found is.0) (λ more items grows. listed _ _ more c.args.found items grows.0)
