-- What follows from a text of JSON that was read, or is none.
use Rattle.std.proofs.Common.{◌≡◌, ℕ, List, Result, Ok, Err, ap}
use Rattle.serde_json.specs.Data.{Data}
use Rattle.dw_wire.specs.declared.request.Request.{Request}
use Rattle.dw_wire.specs.declared.request.Why.{Why}
use Rattle.dw_wire.specs.ReadLine.{value_in, read_from, in_text}

pub text_read : (text : List ℕ) (d : Data) (rest : Data → Result Request Why) → value_in text ≡ Ok d → in_text text rest ≡ rest d
text_read text d rest e = ap (λ (r : Result Data Why). read_from r rest) e

pub text_refused : (text : List ℕ) (why : Why) (rest : Data → Result Request Why) → value_in text ≡ Err why → in_text text rest ≡ Err why
text_refused text why rest e = ap (λ (r : Result Data Why). read_from r rest) e
