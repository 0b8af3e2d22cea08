-- Each branch is a case of the definition, by the mode.
-- Assumes nothing.
use borrow.Author.Rules.{rules}
use Rattle.thermal.proofs.Steps.{acpi_output, plain_output, acpi_case}
use Rattle.thermal.proofs.output_by.Goals as goal

pub returns-in-Plain : goal.returns-in-Plain
returns-in-Plain c = record { equation = search (rules, plain_output); claims = acpi_output }

pub returns-in-Acpi : goal.returns-in-Acpi
returns-in-Acpi c = record { equation = search (rules, acpi_case); claims = acpi_output }
