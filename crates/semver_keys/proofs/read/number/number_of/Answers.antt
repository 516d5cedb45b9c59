use Rattle.std.proofs.Common.{◌++◌, ◌∷◌, ◌∙◌, [], refl, sym, arith}
use Rattle.std.proofs.lemmas.List.{take_more}
use Rattle.semver_keys.proofs.NumberReading.{fits-below, fits-more, lowest-more, lowest-start}
use Rattle.semver_keys.proofs.read.number.number_of.Goals as goal

pub bytes-init : goal.bytes-init
bytes-init c = record { fits = refl; bytes = lowest-start 0 }

pub overflow_mul-n : goal.overflow_mul-n
overflow_mul-n c = let low = fits-below c.bytes.byte-index c.bytes.n (omega arith) c.bytes.invariant.fits in omega arith

pub overflow_add-n : goal.overflow_add-n
overflow_add-n c = let low = fits-below c.bytes.byte-index c.bytes.n (omega arith) c.bytes.invariant.fits in omega arith

pub bytes-preserved : goal.bytes-preserved
bytes-preserved c = record {
  fits = fits-more c.bytes.byte-index c.bytes.n c.from.result (omega arith) c.bytes.invariant.fits;
  bytes = lowest-more c.bytes.byte-index c.bytes.n c.from.result (omega arith)
      ∙ (λ i. c.bytes.invariant.bytes i ++ c.from.ensures i ∷ [])
      ∙ sym (take_more c.args.bytes.now c.bytes.byte-index 0 c.bytes-test.true);
}
