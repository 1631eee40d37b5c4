use Rattle.std.proofs.Common.{refl}
use Rattle.std.specs.Fmt.{digits}
use Rattle.json_rpc.proofs.error.RpcError.code.Goals as goal

pub returns-in-ParseError : goal.returns-in-ParseError
unfolding digits
returns-in-ParseError c = rw c.in-ParseError.is refl

pub returns-in-InvalidRequest : goal.returns-in-InvalidRequest
unfolding digits
returns-in-InvalidRequest c = rw c.in-InvalidRequest.is refl

pub returns-in-MethodNotFound : goal.returns-in-MethodNotFound
unfolding digits
returns-in-MethodNotFound c = rw c.in-MethodNotFound.is refl

pub returns-in-InvalidParams : goal.returns-in-InvalidParams
unfolding digits
returns-in-InvalidParams c = rw c.in-InvalidParams.is refl

pub returns-in-NotFound : goal.returns-in-NotFound
unfolding digits
returns-in-NotFound c = rw c.in-NotFound.is refl

pub returns-in-TypeUnmatched : goal.returns-in-TypeUnmatched
unfolding digits
returns-in-TypeUnmatched c = rw c.in-TypeUnmatched.is refl

pub returns-in-TestFailed : goal.returns-in-TestFailed
unfolding digits
returns-in-TestFailed c = rw c.in-TestFailed.is refl
