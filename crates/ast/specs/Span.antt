-- The span of a whole node (ast.rs: `Ast::span`, `type_span`): "`cover_spans` decides a span of several parts". Definitions.
use Rattle.std.specs.Prelude.{ℕ, List, [], ◌∷◌, ◌++◌}
use Rattle.tok.specs.declared.Span.{Span}
use Rattle.tok.specs.Span.{token_span, cover_spans}
use Rattle.ast.specs.TypeExpr.{TypeExpr, type_token, Arg}
use Rattle.ast.specs.Node.{Node, Nodes, Cases, Values, ExternFn, Atom, Ident, Bin, Unary, Let, Fn, Match, Call, Field, Cast, Import, Extern, Record, Array, Absent, done, then, no_case, case, no_value, value}

-- Ast::type_span
abbrev pub type_span : TypeExpr → Span
type_span t = token_span (type_token t)

unfoldable pub token_spans : List ℕ → List Span
token_spans [] = []
token_spans (w ∷ ws) = token_span w ∷ token_spans ws

unfoldable pub arg_spans : List Arg → List Span
arg_spans [] = []
arg_spans (a ∷ rest) = token_span a.name ∷ type_span a.type ∷ arg_spans rest

-- of an Extern: the functions' names, arguments and return types
unfoldable pub extern_spans : List ExternFn → List Span
extern_spans [] = []
extern_spans (f ∷ fs) = token_span f.name ∷ (arg_spans f.args ++ (type_span f.ret ∷ extern_spans fs))

-- Ast::span, which is never None
unfoldable mutual
  pub span_of : Node → Span
  span_of (Atom n slot token k) = token_span token
  span_of (Ident n slot name) = token_span name
  span_of (Bin n slot token op l r) = cover_spans (span_of l) (token_span token ∷ span_of r ∷ [])
  span_of (Unary n slot token op r) = cover_spans (token_span token) (span_of r ∷ [])
  span_of (Let n slot name r) = cover_spans (token_span name) (span_of r ∷ [])
  span_of (Fn n slot name ret args body) = cover_spans (token_span name) (spans_of body)
  span_of (Match n slot cs token d) = cover_spans (token_span token) (case_spans cs ++ spans_of d)
  span_of (Call n slot target args) = cover_spans (span_of target) (spans_of args)
  span_of (Field n slot target name) = cover_spans (span_of target) (token_span name ∷ [])
  span_of (Cast n slot token l t) = cover_spans (span_of l) (token_span token ∷ type_span t ∷ [])
  span_of (Import n slot token paths) = cover_spans (token_span token) (token_spans paths)
  span_of (Extern n slot token name fs) = cover_spans (token_span token) (token_span name ∷ extern_spans fs)
  span_of (Record n slot token fs) = cover_spans (token_span token) (value_spans fs)
  span_of (Array n slot token ms) = cover_spans (token_span token) (spans_of ms)
  span_of (Absent n) = token_span 0

  pub spans_of : Nodes → List Span
  spans_of done = []
  spans_of (then x xs) = span_of x ∷ spans_of xs

  pub case_spans : Cases → List Span
  case_spans no_case = []
  case_spans (case token c body cs) = token_span token ∷ span_of c ∷ (spans_of body ++ case_spans cs)

  pub value_spans : Values → List Span
  value_spans no_value = []
  value_spans (value name x vs) = token_span name ∷ span_of x ∷ value_spans vs
