-- internal: what a page is asked for, as it is kept while the page is made
use Rattle.std.specs.Prelude.{option_copied}
use Rattle.cls_base.specs.Pages.{Request}
use Rattle.cls_enum.specs.Requests.{request}
use Rattle.cls_enum.specs.declared.page_request.PageRequest.{PageRequest}

-- the request that it is of
abbrev pub request_of : PageRequest → Request
request_of r = request r.costs.now (option_copied r.after) r.max r.take
