mod Examples
mod Fresh
