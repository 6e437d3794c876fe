-- The exact bytes of a response.
use Rattle.std.specs.Prelude.{ℕ, Bool, if◌then◌else◌, List, [], ◌++◌, length, codes, decimal}
use Rattle.http_responses.specs.declared.{body.Body.Body, body.Reply.Reply, refusal.Refusal.Refusal, status.Status.Status}

abbrev pub code_of : Status → ℕ
code_of Status.Okay = 200
code_of Status.Created = 201
code_of Status.BadRequest = 400
code_of Status.NotFound = 404
code_of Status.MethodNotAllowed = 405
code_of Status.Conflict = 409
code_of Status.PayloadTooLarge = 413
code_of Status.UnprocessableEntity = 422
code_of Status.HeaderFieldsTooLarge = 431
code_of Status.NotImplemented = 501
code_of Status.ServiceUnavailable = 503
code_of Status.InsufficientStorage = 507

abbrev pub phrase_of : Status → List ℕ
phrase_of Status.Okay = codes "OK"
phrase_of Status.Created = codes "Created"
phrase_of Status.BadRequest = codes "Bad Request"
phrase_of Status.NotFound = codes "Not Found"
phrase_of Status.MethodNotAllowed = codes "Method Not Allowed"
phrase_of Status.Conflict = codes "Conflict"
phrase_of Status.PayloadTooLarge = codes "Payload Too Large"
phrase_of Status.UnprocessableEntity = codes "Unprocessable Entity"
phrase_of Status.HeaderFieldsTooLarge = codes "Request Header Fields Too Large"
phrase_of Status.NotImplemented = codes "Not Implemented"
phrase_of Status.ServiceUnavailable = codes "Service Unavailable"
phrase_of Status.InsufficientStorage = codes "Insufficient Storage"

-- ---- refusals that are told by their kind

abbrev pub refusal_status : Refusal → Status
refusal_status Refusal.BadHead = Status.BadRequest
refusal_status Refusal.HeadTooLong = Status.HeaderFieldsTooLarge
refusal_status Refusal.Coding = Status.NotImplemented
refusal_status Refusal.BadLength = Status.BadRequest
refusal_status Refusal.BodyTooLong = Status.PayloadTooLarge
refusal_status Refusal.NoRoute = Status.NotFound
refusal_status Refusal.NoMethod = Status.MethodNotAllowed
refusal_status Refusal.Store = Status.ServiceUnavailable
refusal_status Refusal.NoMemory = Status.InsufficientStorage

abbrev pub kind_of : Refusal → List ℕ
kind_of Refusal.BadHead = codes "BadHead"
kind_of Refusal.HeadTooLong = codes "HeadTooLong"
kind_of Refusal.Coding = codes "Coding"
kind_of Refusal.BadLength = codes "BadLength"
kind_of Refusal.BodyTooLong = codes "BodyTooLong"
kind_of Refusal.NoRoute = codes "NoRoute"
kind_of Refusal.NoMethod = codes "NoMethod"
kind_of Refusal.Store = codes "Store"
kind_of Refusal.NoMemory = codes "NoMemory"

abbrev pub refusal_text : Refusal → List ℕ
refusal_text refusal = codes "{\"refused\":{\"kind\":\"" ++ kind_of refusal ++ codes "\"}}"

abbrev pub body_text : Body → List ℕ
body_text (Body.Text text) = text
body_text (Body.Refused refusal) = refusal_text refusal

-- ---- the bytes of a response

abbrev pub status_line : Status → List ℕ
status_line status = codes "HTTP/1.1 " ++ decimal (code_of status) ++ codes " " ++ phrase_of status ++ codes "\r\n"

abbrev pub header : List ℕ → List ℕ → List ℕ
header name value = name ++ codes ": " ++ value ++ codes "\r\n"

abbrev pub connection : Bool → List ℕ
connection is_last = if is_last then header (codes "connection") (codes "close") else []

-- the head of a response whose body has that size
unfoldable pub head_text : Status → ℕ → ℕ → Bool → List ℕ
head_text status point size is_last =
    status_line status
    ++ header (codes "book") (decimal point)
    ++ connection is_last
    ++ header (codes "content-length") (decimal size)
    ++ header (codes "content-type") (codes "application/json")
    ++ codes "\r\n"

unfoldable pub response_text : Reply → Bool → List ℕ
response_text reply is_last = head_text reply.status reply.point (length (body_text reply.body)) is_last ++ body_text reply.body
