-- The numbers of commands: only what has no ticket yet is verified, so a move has two commands at most.
use Rattle.std.proofs.Common.{◌≤◌, Option, Some, None, arith}
use Rattle.tpol_driver.specs.declared.step.Heard.{Heard}
use Rattle.tpol_driver.specs.declared.step.Heard.TheVariants.{Verified, Accepted, Failed}
use Rattle.tpol_driver.specs.Underway.{IsVerifiedOnce, most_before, sent_with}
use Rattle.tpol_fields.specs.declared.ticket.Ticket.{Ticket}

two_at_most : (ticket : Option Ticket) → sent_with ticket ≤ 2
two_at_most None = omega arith
two_at_most (Some ticket) = omega arith

pub few_before : (ticket : Option Ticket) (heard : Heard) → IsVerifiedOnce ticket heard → sent_with ticket ≤ most_before heard
few_before None (Verified answered) once = omega arith
few_before (Some ticket) (Verified answered) once = absurd cc
few_before ticket Accepted once = two_at_most ticket
few_before ticket (Failed end) once = two_at_most ticket
