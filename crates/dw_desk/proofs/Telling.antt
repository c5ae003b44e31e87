-- On what the text of an answer tells.
use Rattle.std.proofs.Common.{◌≡◌, ◌≢◌, ◌+◌, ◌==◌, ◌&&◌, ◌||◌, ◌∷◌, [], ℕ, Bool, true, false, cond, nat_lt, List, get_or, Option, Some, None, Ok, Err, refl, sym, ap, ◌∙◌, subst, inl, inr}
use Rattle.std.proofs.lemmas.Bool.{eqb-false}
use Rattle.serde_json.proofs.OnLiterals.{serde_json_on_literals}
use Rattle.dw_event.specs.declared.days.Days.{Days}
use Rattle.dw_event.specs.declared.types.Types.{Types}
use Rattle.dw_dict.specs.Rules.{widens}
use Rattle.dw_dict.specs.Dictionary.{rule_of}
use Rattle.dw_dict.specs.declared.rule.FieldRule.{FieldRule}
use Rattle.dw_wire.specs.declared.request.Request.TheVariants.{Define, Grant, Ingest, Create, Page, Close}
use Rattle.dw_wire.specs.declared.request.Why.TheVariants as why
use Rattle.dw_wire.specs.declared.reply.Reply.{Reply}
use Rattle.dw_wire.specs.declared.reply.Reply.TheVariants.{Defined, Granted, Ingested, Created, Paged, Closed, Malformed, NotOwned, NotEmpty, Unanchored, Spent, StoreFault, OutOfMemory}
use Rattle.dw_wire.specs.ReplyText.{reply_text}
use Rattle.dw_eval.specs.declared.nquery.NQuery.{NQuery}
use Rattle.dw_eval.specs.declared.open_query.OpenQuery.{OpenQuery}
use Rattle.dw_eval.specs.Bound.{bound}
use Rattle.dw_plan.specs.Anchored.{anchored}
use Rattle.dw_ingest.specs.Ingested.{last_number}
use Rattle.dw_desk.specs.State.{State}
use Rattle.dw_event.specs.Take.{Taken, none_taken, with_records}
use Rattle.dw_desk.specs.Step.{Outcome, step, asked_for, defined, ingested, created, paged, dropped, query_of}
use Rattle.dw_desk.specs.Session.{Digest, Asked, Answers, Session}
use Rattle.dw_desk.specs.Laws.{StepsTell, SessionsTell}

-- a reply other than the two that say that nothing was done
abbrev IsDone : Reply → Type 0
IsDone Defined = Unit {0}
IsDone Granted = Unit {0}
IsDone (Ingested report) = Unit {0}
IsDone (Created number) = Unit {0}
IsDone (Paged shown more) = Unit {0}
IsDone Closed = Unit {0}
IsDone (Malformed why) = Unit {0}
IsDone NotOwned = Unit {0}
IsDone NotEmpty = Unit {0}
IsDone Unanchored = Unit {0}
IsDone Spent = Unit {0}
IsDone StoreFault = ⊥
IsDone OutOfMemory = ⊥

-- ---- texts differ at a place

differ : (k : ℕ) (xs ys : List ℕ) → (get_or xs k 0 == get_or ys k 0) ≡ false → xs ≢ ys
differ k xs ys d e = eqb-false (get_or xs k 0) (get_or ys k 0) d (ap (λ zs. get_or zs k 0) e)

abbrev Apart : Reply → Type 0
Apart r = (reply_text r ≢ reply_text OutOfMemory) × (reply_text r ≢ reply_text StoreFault)

apart_at : (k m : ℕ) (r : Reply) → (get_or (reply_text r) k 0 == get_or (reply_text OutOfMemory) k 0) ≡ false → (get_or (reply_text r) m 0 == get_or (reply_text StoreFault) m 0) ≡ false → Apart r
apart_at k m r d e = (differ k (reply_text r) (reply_text OutOfMemory) d, differ m (reply_text r) (reply_text StoreFault) e)

-- where the name of a refusal begins
abbrev name_at : ℕ
name_at = 10

texts_apart : (r : Reply) → IsDone r → Apart r
unfolding serde_json_on_literals reply_text
texts_apart Defined h = apart_at 2 2 Defined refl refl
texts_apart Granted h = apart_at 2 2 Granted refl refl
texts_apart (Ingested report) h = apart_at 2 2 (Ingested report) refl refl
texts_apart (Created number) h = apart_at 2 2 (Created number) refl refl
texts_apart (Paged shown more) h = apart_at 3 3 (Paged shown more) refl refl
texts_apart Closed h = apart_at 2 2 Closed refl refl
texts_apart (Malformed why.Line) h = apart_at name_at name_at (Malformed why.Line) refl refl
texts_apart (Malformed why.Json) h = apart_at name_at name_at (Malformed why.Json) refl refl
texts_apart (Malformed why.Shape) h = apart_at name_at name_at (Malformed why.Shape) refl refl
texts_apart (Malformed why.Caller) h = apart_at name_at name_at (Malformed why.Caller) refl refl
texts_apart (Malformed why.Field) h = apart_at name_at name_at (Malformed why.Field) refl refl
texts_apart (Malformed why.Kind) h = apart_at name_at name_at (Malformed why.Kind) refl refl
texts_apart (Malformed why.Auths) h = apart_at name_at name_at (Malformed why.Auths) refl refl
texts_apart (Malformed why.Records) h = apart_at name_at name_at (Malformed why.Records) refl refl
texts_apart (Malformed (why.Query rule)) h = apart_at name_at name_at (Malformed (why.Query rule)) refl refl
texts_apart (Malformed why.Days) h = apart_at name_at name_at (Malformed why.Days) refl refl
texts_apart (Malformed why.Types) h = apart_at name_at name_at (Malformed why.Types) refl refl
texts_apart (Malformed why.Size) h = apart_at name_at name_at (Malformed why.Size) refl refl
texts_apart (Malformed why.Number) h = apart_at name_at name_at (Malformed why.Number) refl refl
texts_apart (Malformed why.Page) h = apart_at name_at name_at (Malformed why.Page) refl refl
texts_apart (Malformed why.Literal) h = apart_at name_at name_at (Malformed why.Literal) refl refl
texts_apart NotOwned h = apart_at name_at name_at NotOwned refl refl
texts_apart NotEmpty h = apart_at name_at name_at NotEmpty refl refl
texts_apart Unanchored h = apart_at name_at name_at Unanchored refl refl
texts_apart Spent h = apart_at name_at (name_at + 1) Spent refl refl
texts_apart StoreFault h = absurd h
texts_apart OutOfMemory h = absurd h

both_apart : reply_text OutOfMemory ≢ reply_text StoreFault
unfolding serde_json_on_literals reply_text
both_apart = differ name_at (reply_text OutOfMemory) (reply_text StoreFault) refl

-- ---- replies of steps

done_either : (b : Bool) (x y : Outcome) → IsDone x.reply → IsDone y.reply → IsDone (cond b x y).reply
done_either true x y h k = h
done_either false x y h k = k

define_done : (w : State) (field : List ℕ) (rule : FieldRule) → IsDone (defined w field rule).reply
define_done w field rule = done_either ((w.world.last == 0) || widens rule (rule_of w.world.dict field)) _ _ tt tt

ingest_done : (w : State) (t : Taken) → IsDone (ingested w t).reply
ingest_done w t = done_either (nat_lt 0 t.new && (w.world.last == last_number)) _ _ tt tt

create_done : (w : State) (caller : List ℕ) (q : OpenQuery) → IsDone (created w caller q).reply
create_done w caller q = done_either ((w.accounts caller).given == last_number) _ _ tt tt

ask_done : (w : State) (caller : List ℕ) (days : Days) (types : Types) (size : ℕ) (asked : Option (List (List ℕ))) (o : Option NQuery) → IsDone (asked_for w caller days types size asked o).reply
ask_done w caller days types size asked None = tt
ask_done w caller days types size asked (Some q) = done_either (anchored q) _ _ (create_done w caller (query_of w.world caller q days types size asked)) tt

page_done : (w : State) (page : ℕ) (o : Option OpenQuery) → IsDone (paged w page o).reply
page_done w page None = tt
page_done w page (Some q) = tt

drop_done : (w : State) (caller : List ℕ) (number : ℕ) (o : Option OpenQuery) → IsDone (dropped w caller number o).reply
drop_done w caller number None = tt
drop_done w caller number (Some q) = tt

step_done : (digest : Digest) (w : State) (request : Asked) → IsDone (step digest w request).reply
unfolding step
step_done digest w (Err why) = tt
step_done digest w (Ok (Define field rule)) = define_done w field rule
step_done digest w (Ok (Grant caller names)) = tt
step_done digest w (Ok (Ingest records)) = ingest_done w (with_records digest (w.world.last + 1) (none_taken w.world.events) records)
step_done digest w (Ok (Create caller query days types size asked)) = ask_done w caller days types size asked (bound w.world.dict query)
step_done digest w (Ok (Page caller number page)) = page_done w page ((w.accounts caller).queries number)
step_done digest w (Ok (Close caller number)) = drop_done w caller number ((w.accounts caller).queries number)

pub steps_tell : StepsTell
steps_tell digest w request =
    let apart : Apart (step digest w request).reply = texts_apart (step digest w request).reply (step_done digest w request) in
    record { memory = apart.0; store = apart.1; apart = both_apart }

-- ---- sessions

answers_tell : (digest : Digest) (w : State) (request : Asked) (text : List ℕ) (one other : State) (m n : ℕ)
    → Answers digest w request text one m → Answers digest w request text other n → (one ≡ other) × (m ≡ n)
answers_tell digest w request text one other m n (inl a) (inl b) = (a.1 ∙ sym b.1, a.2 ∙ sym b.2)
answers_tell digest w request text one other m n (inl a) (inr (inl b)) = absurd ((steps_tell digest w request).memory (sym a.0 ∙ b.0))
answers_tell digest w request text one other m n (inl a) (inr (inr b)) = absurd ((steps_tell digest w request).store (sym a.0 ∙ b.0))
answers_tell digest w request text one other m n (inr (inl a)) (inl b) = absurd ((steps_tell digest w request).memory (sym b.0 ∙ a.0))
answers_tell digest w request text one other m n (inr (inl a)) (inr (inl b)) = (a.1 ∙ sym b.1, a.2 ∙ sym b.2)
answers_tell digest w request text one other m n (inr (inl a)) (inr (inr b)) = absurd (both_apart (sym a.0 ∙ b.0))
answers_tell digest w request text one other m n (inr (inr a)) (inl b) = absurd ((steps_tell digest w request).store (sym b.0 ∙ a.0))
answers_tell digest w request text one other m n (inr (inr a)) (inr (inl b)) = absurd (both_apart (sym b.0 ∙ a.0))
answers_tell digest w request text one other m n (inr (inr a)) (inr (inr b)) = (a.1 ∙ sym b.1, a.2 ∙ sym b.2)

pub sessions_tell : SessionsTell
sessions_tell digest w [] [] one other m n x y = (x.0 ∙ sym y.0, x.1 ∙ sym y.1)
sessions_tell digest w [] (t ∷ ts) one other m n x y = absurd x
sessions_tell digest w (r ∷ rs) [] one other m n x y = absurd x
sessions_tell digest w (r ∷ rs) (t ∷ ts) one other m n x y =
    let here : (x.0 ≡ y.0) × (x.1 ≡ y.1) = answers_tell digest w r t x.0 y.0 x.1 y.1 x.3 y.3 in
    let later : (one ≡ other) × (x.2 ≡ y.2) =
    sessions_tell digest y.0 rs ts one other x.2 y.2 (subst (λ (v : State). Session digest v rs ts one x.2) here.0 x.4) y.4 in
    (later.0, x.5 ∙ ap (λ k. k + x.2) here.1 ∙ ap (λ k. y.1 + k) later.1 ∙ sym y.5)
