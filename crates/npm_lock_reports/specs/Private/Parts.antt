-- The parts of an exception, before they are copied.
use Rattle.npm_lock_reports.specs.AdvisoryExceptions.{ExceptionValue}
use Rattle.npm_lock_reports.specs.declared.advisory_exceptions.item.Parts.{Parts}

-- the exception with these parts
abbrev pub parts_value : Parts → ExceptionValue
parts_value parts = record { id = parts.id.now; name = parts.name.now; reason = parts.reason.now; until = parts.until }
