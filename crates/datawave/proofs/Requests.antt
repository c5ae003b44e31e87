-- What a line asks for, and the text that answers it.
use Rattle.std.proofs.Common.{◌≡◌, ◌≤◌, ℕ, Bool, true, false, cond, List, Option, length, nat_le, Some, None, Ok, Err, IfOk, refl, ap, le_refl, inl, inr}
use Rattle.dw_outside.specs.Faults.{Rose}
use Rattle.dw_outside.specs.Tables.{Tables}
use Rattle.dw_derive.specs.World.{World}
use Rattle.dw_wire.specs.declared.request.Why.TheVariants as why
use Rattle.dw_wire.specs.declared.reply.Reply.{Reply}
use Rattle.dw_wire.specs.declared.reply.Reply.TheVariants.{OutOfMemory, StoreFault}
use Rattle.dw_groups.specs.Batches.{json_of}
use Rattle.dw_wire.specs.ReadLine.{max_line, needed, read_from, request_of, read_line}
use Rattle.dw_wire.specs.ReplyText.{reply_text}
use Rattle.dw_wire.specs.WellFormed.{IsWellFormed}
use Rattle.dw_wire.proofs.KeptRequests.{line_kept}
use Rattle.dw_desk.specs.Stands.{Stands, state_of}
use Rattle.dw_desk.specs.Desk.{Answered, IsFormed, Replies}
use Rattle.dw_desk.specs.Session.{Digest, Asked}
use Rattle.dw_desk.specs.declared.desk.Desk.{Desk}
use Rattle.datawave.specs.Lines.{kept}
use Rattle.datawave.specs.Exchange.{RequestAnswered}
use Rattle.datawave.proofs.Rising.{rose_none, rose_one}

-- a line that is too long is no request
pub too_long : (bytes : List ℕ) → None ≡ kept bytes → Err why.Line ≡ read_line bytes
unfolding read_line
too_long bytes e = refused (nat_le (length bytes) max_line) e
  where
    refused : (b : Bool) → None ≡ cond b (Some bytes) None → Err why.Line ≡ read_from (cond b (needed why.Json (json_of bytes) Ok) (Err why.Line)) request_of
    refused true e = cc
    refused false e = refl

-- the text of a desk's reply answers the request
pub answered_by : (digest : Digest) (w : World) (d now : Desk) (before after : ℕ) (request : Asked) (reply : Reply) (told : Option Tables) → Answered told now (Replies digest (state_of w d) request reply)
    → before ≤ after → (reply ≡ StoreFault → Rose before after) → RequestAnswered digest w d before request (reply_text reply) now told after
answered_by digest w d now before after request reply told x counted failed = known x.is
  where
    known : Replies digest (state_of w d) request reply (state_of x.next now) → RequestAnswered digest w d before request (reply_text reply) now told after
    known (inl h) = record { next = x.next; faults = 0; stands = x.stands; answers = inl (ap reply_text h.0, h.1, refl); rose = rose_none before after counted }
    known (inr (inl h)) = record { next = x.next; faults = 0; stands = x.stands; answers = inr (inl (ap reply_text h.0, h.1, refl)); rose = rose_none before after counted }
    known (inr (inr h)) = record { next = x.next; faults = 1; stands = x.stands; answers = inr (inr (ap reply_text h.0, h.1, refl, h.2)); rose = rose_one before after (failed h.0) }

-- what was not read for want of memory is answered so
pub answered_unread : (digest : Digest) (w : World) (d : Desk) (faults : ℕ) (request : Asked) (told : Option Tables) → Stands told d w
    → RequestAnswered digest w d faults request (reply_text OutOfMemory) d told faults
answered_unread digest w d faults request told stands =
    record { next = w; faults = 0; stands = stands; answers = inr (inl (refl, refl, refl)); rose = rose_none faults faults (le_refl faults) }

formed : (r : Asked) → IfOk r IsWellFormed → IsFormed r
formed (Ok request) h = h
formed (Err e) h = tt

-- each request that a line is keeps its rules
pub line_formed : (bytes : List ℕ) → IsFormed (read_line bytes)
line_formed bytes = formed (read_line bytes) (line_kept bytes)
