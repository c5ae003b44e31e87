-- Responses, and the last reply to bytes that are no message.
use Rattle.std.specs.Prelude.{ℕ, List, [], ◌++◌, length, codes, decimal, Bool, true, false, Option, Some, None}
use Rattle.http.specs.StatusCode.{status_text}
use Rattle.dw_http.specs.declared.why.HttpWhy.{HttpWhy}
use Rattle.dw_http.specs.declared.why.HttpWhy.TheVariants.{Head, Large, Transfer, Length, Body, Cut}

abbrev pub word_of : HttpWhy → List ℕ
word_of Head = codes "head"
word_of Large = codes "large"
word_of Transfer = codes "transfer"
word_of Length = codes "length"
word_of Body = codes "body"
word_of Cut = codes "cut"

abbrev pub status_of : HttpWhy → ℕ
status_of Head = 400
status_of Large = 431
status_of Transfer = 501
status_of Length = 400
status_of Body = 413
status_of Cut = 400

-- the method that a path has, in the reply to another method
abbrev pub allow_line : Option (List ℕ) → List ℕ
allow_line None = []
allow_line (Some method) = codes "allow: " ++ method ++ codes "\r\n"

abbrev pub close_line : Bool → List ℕ
close_line true = codes "connection: close\r\n"
close_line false = []

-- a response to its empty line, for a text of so many bytes
abbrev pub response_head : ℕ → Option (List ℕ) → Bool → ℕ → List ℕ
response_head status allow close count =
    codes "HTTP/1.1 " ++ status_text status ++ codes "\r\n" ++ allow_line allow ++ close_line close
    ++ codes "content-length: " ++ decimal count ++ codes "\r\ncontent-type: application/json\r\n\r\n"

-- a response with this text
abbrev pub response_text : ℕ → Option (List ℕ) → Bool → List ℕ → List ℕ
response_text status allow close text = response_head status allow close (length text) ++ text

abbrev pub why_text : HttpWhy → List ℕ
why_text why = codes "{\"error\":\"badHttp\",\"why\":\"" ++ word_of why ++ codes "\"}\n"

abbrev pub last_reply : HttpWhy → List ℕ
last_reply why = response_text (status_of why) None true (why_text why)
