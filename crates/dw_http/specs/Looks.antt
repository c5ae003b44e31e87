-- What is found at the front of bytes.
use Rattle.std.specs.Prelude.{◌≡◌, ◌<◌, ◌≤◌, ℕ, List, length, take, drop, Ok, Err}
use Rattle.httparse.specs.Grammar.{RequestHead, NeverHasRequest}
use Rattle.dw_http.specs.Heads.{Stands, NoneStands, max_head}
use Rattle.dw_http.specs.Lengths.{max_body}
use Rattle.dw_http.specs.Messages.{size_of}
use Rattle.dw_http.specs.declared.looking.Look.{Look}
use Rattle.dw_http.specs.declared.looking.Look.TheVariants.{Whole, Refused, NotYet, Never}

-- a head of so many bytes stands there, and a body of so many belongs to it
pub record HasHead (bytes : List ℕ) (head body : ℕ) : Type 0 where
  pub is : RequestHead
  pub some : 0 < head
  pub few : head ≤ max_head
  pub body_few : body ≤ max_body
  pub within : head ≤ length bytes
  pub stands : Stands bytes is (drop head bytes)
  pub size_is : size_of is ≡ Ok body

abbrev pub LooksAt : List ℕ → Look → Type 0
LooksAt bytes (Whole head body) = HasHead bytes head body
LooksAt bytes (Refused why) = (h : RequestHead) × (rest : List ℕ) × Stands bytes h rest × (size_of h ≡ Err why)
LooksAt bytes NotYet = NoneStands bytes
LooksAt bytes Never = (0 < length bytes) × NeverHasRequest (take max_head bytes)
