-- What contracts see of an ask.
use Rattle.dw_http.specs.declared.service.HttpAsk.{HttpAsk}
use Rattle.dw_http.specs.declared.service.Caller.{Caller}
use Rattle.dw_http.specs.declared.service.Caller.TheVariants.{None, One, Many}
use Rattle.dw_http.specs.Messages.{Ask, Asker, no_one, one, many}

abbrev pub asker_of : Caller → Asker
asker_of None = no_one
asker_of (One value) = one value.now
asker_of Many = many

abbrev pub asked : HttpAsk → Ask
asked a = record {
  method = a.method.now;
  target = a.target.now;
  asker = asker_of a.caller;
  csv = a.csv;
  body = a.body.now;
  close = a.close;
}
