-- The map has one text more.
use Rattle.npm_lock.proofs.StarPatterns.{one_text}
use Rattle.npm_lock.proofs.patterns.add_text.Goals as goal

pub returns : goal.returns
returns c = λ other. one_text c.args.texts.now c.insert.new.self _ c.args.text.now other
    (rw c.as_bytes.ensures.value at c.in_ok-insert.ensures.updates)
