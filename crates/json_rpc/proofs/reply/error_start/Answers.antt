use Rattle.std.proofs.Common.{refl}
use Rattle.json_model.specs.Print.{shown_byte}
use Rattle.json_rpc.proofs.reply.error_start.Goals as goal

pub returns-in-ParseError : goal.returns-in-ParseError
unfolding shown_byte
returns-in-ParseError c = rw c.in-ParseError.is refl

pub returns-in-InvalidRequest : goal.returns-in-InvalidRequest
unfolding shown_byte
returns-in-InvalidRequest c = rw c.in-InvalidRequest.is refl

pub returns-in-MethodNotFound : goal.returns-in-MethodNotFound
unfolding shown_byte
returns-in-MethodNotFound c = rw c.in-MethodNotFound.is refl

pub returns-in-InvalidParams : goal.returns-in-InvalidParams
unfolding shown_byte
returns-in-InvalidParams c = rw c.in-InvalidParams.is refl

pub returns-in-NotFound : goal.returns-in-NotFound
unfolding shown_byte
returns-in-NotFound c = rw c.in-NotFound.is refl

pub returns-in-TypeUnmatched : goal.returns-in-TypeUnmatched
unfolding shown_byte
returns-in-TypeUnmatched c = rw c.in-TypeUnmatched.is refl

pub returns-in-TestFailed : goal.returns-in-TestFailed
unfolding shown_byte
returns-in-TestFailed c = rw c.in-TestFailed.is refl
