use Rattle.semver_pairs.proofs.OpenPairLemmas.{behind, begins, open_ended, version_more}
use Rattle.semver_pairs.proofs.open_pair.OpenPair.read_version.Goals as goal

pub returns-in_ok-append-in-Some-clause-whole : goal.returns-in_ok-append-in-Some-clause-whole
returns-in_ok-append-in-Some-clause-whole c =
    begins _ _ _ _ _ _ _ c.requires.lines.range c.requires.lines.version (open_ended c.args.self.now c.requires.ended)
    c.in_ok-append-in-Some.ensures.appended c.in-Some.ensures.split

pub returns-in_ok-append-in-None-clause-lines : goal.returns-in_ok-append-in-None-clause-lines
returns-in_ok-append-in-None-clause-lines c = record {
  range = c.requires.lines.range;
  version = behind _ _ _ c.in_ok-append-in-None.ensures.appended c.requires.lines.version c.in-None.ensures.none;
  none_yet = λ is. cc (is, c.requires.ended);
}

pub returns-in_ok-append-in-None-clause-more : goal.returns-in_ok-append-in-None-clause-more
returns-in_ok-append-in-None-clause-more c =
    version_more _ _ _ _ _ c.requires.ended c.in_ok-append-in-None.ensures.appended
