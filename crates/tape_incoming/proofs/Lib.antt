mod OneByOne
mod Examples
