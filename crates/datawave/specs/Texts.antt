-- The texts of answers, as the program keeps them.
use Rattle.std.specs.Prelude.{ℕ, List}
use Rattle.datawave.specs.declared.exchange.Text.{Text}
use Rattle.datawave.specs.declared.exchange.Text.TheVariants.{Written, Memory}
use Rattle.dw_wire.specs.declared.reply.Reply.TheVariants.{OutOfMemory}
use Rattle.dw_wire.specs.ReplyText.{reply_text}

-- the bytes of a text
abbrev pub text_of : Text → List ℕ
text_of (Written bytes) = bytes
text_of Memory = reply_text OutOfMemory
