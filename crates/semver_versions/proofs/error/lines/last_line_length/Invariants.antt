use Rattle.std.proofs.Common.{◌≡◌, ◌+◌, ◌≤◌, length, not, take}
use Rattle.std.specs.List.{suffix_len}
use Rattle.semver_versions.specs.ErrorLocation.{is_newline}
use Rattle.semver_versions.proofs.error.lines.last_line_length.Given as goal

-- the bytes from `start` on are of the last line
abbrev pub invariant-line : goal.invariant-line
invariant-line l = record {
  within : l.start ≤ length l.prefix;
  line : l.start + suffix_len (λ b. not (is_newline b)) l.prefix
      ≡ length l.prefix + suffix_len (λ b. not (is_newline b)) (take l.start l.prefix);
}

abbrev pub decreases-line : goal.decreases-line
decreases-line l = l.start
