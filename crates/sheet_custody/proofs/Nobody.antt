-- A security to stand where a list has none. Assumes nothing.
use Rattle.rulebook.specs.declared.Security.{Security}

pub no_security : Security
no_security = record { code = 0; issued = record { 0 = 0 }; outside = record { 0 = 0 }; held = record { 0 = 0 } }
