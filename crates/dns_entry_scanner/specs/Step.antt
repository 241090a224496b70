-- The next step of a row. Only contracts inside the crate name it.
use Rattle.std.specs.Prelude.{◌≡◌, ◌≤◌, ℕ, Bool, List, drop, length, option_map, IfSome}
use Rattle.dns_text.specs.Tokens.{Next}
use Rattle.dns_entry_scanner.specs.Gap.{end_in}
use Rattle.dns_entry_scanner.specs.TokenSpan.{IsMarked, token_in}
use Rattle.dns_entry_scanner.specs.declared.step.Step.{Step}

-- the step leads from the place, inside or outside parentheses, over the next token or the end of the row
pub record StepsTo (inside : Bool) (text : List ℕ) (place : ℕ) (step : Step) : Type 0 where
  pub next : Next inside (drop place text) (option_map (λ span. token_in text span) step.found) step.inside (drop step.place text)
  pub placed : IfSome step.found (λ span. step.place ≡ end_in text span)
  pub marked : IfSome step.found (λ span. IsMarked text span)
  pub within : step.place ≤ length text
